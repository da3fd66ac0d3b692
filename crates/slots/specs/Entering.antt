-- What the tests of a telegram that is to enter answer.
use Rattle.std.specs.Prelude.{◌≡◌, ℕ, ◌<◌, ◌≤◌, true, false, List, [], Some, None, Ok, Err, Option, Result, slice_index_or}
use Rattle.shows.specs.Calls.{State, count_limit, entry_tests}
use Rattle.shows.specs.Faults.{number}
use Rattle.shows.specs.Timing.{last_tick, no_row, is_set, first_refusal}
use Rattle.shows.specs.declared.fault.ShowFault.{ShowFault}
use Rattle.shows.specs.declared.row.Row.{Row}
use Rattle.shows.specs.declared.zone.Zone.{Zone}
use Rattle.slots.specs.Slots.{Given}
use Rattle.slots.specs.declared.slot.Slot.{Slot}

-- what the tests look at of a show: its clock, its count and its rows
abbrev pub seen : (clock accepted : ℕ) → List Row → State
seen clock accepted rows = record { clock = clock; accepted = accepted; departed = 0; displaced = 0; rows = rows; held = [] }

-- the row of a number, if it is set
abbrev pub Finds : List Row → ℕ → Option Row → Type 0
Finds rows row None = is_set (slice_index_or rows row no_row) ≡ false
Finds rows row (Some x) = (slice_index_or rows row no_row ≡ x) × (is_set x ≡ true) × (row < 64)

-- the number of the first test that refuses the telegram, or 0
abbrev pub entry_refusal : Zone → (clock accepted : ℕ) → List Row → (now row bytes : ℕ) → ℕ
entry_refusal z clock accepted rows now row bytes = first_refusal (entry_tests z (seen clock accepted rows) now row bytes)

-- a telegram may enter: no test refuses it, and this is its slot
pub record Passed (z : Zone) (clock accepted : ℕ) (rows : List Row) (now row bytes : ℕ) (slot : Slot) : Type 0 where
  pub none_refuses : entry_refusal z clock accepted rows now row bytes ≡ 0
  pub given : Given (slice_index_or rows row no_row) now bytes slot
  pub within : row < 64
  pub room_to_count : accepted < count_limit
  pub in_time : slot.release ≤ last_tick

abbrev pub Passes : Zone → (clock accepted : ℕ) → List Row → (now row bytes : ℕ) → Result Slot ShowFault → Type 0
Passes z clock accepted rows now row bytes (Ok slot) = Passed z clock accepted rows now row bytes slot
Passes z clock accepted rows now row bytes (Err e) = number e ≡ entry_refusal z clock accepted rows now row bytes
