-- What the tests of a telegram that is to enter answer, of a show in a state.
use Rattle.std.specs.Prelude.{ℕ, Result}
use Rattle.shows.specs.Calls.{State, Limits, zone_at}
use Rattle.shows.specs.declared.fault.ShowFault.{ShowFault}
use Rattle.slots.specs.Entering as tests
use Rattle.slots.specs.declared.slot.Slot.{Slot}

-- a telegram may enter: no test refuses it, and this is its slot
abbrev pub Passed : Limits → State → (now row bytes : ℕ) → Slot → Type 0
Passed l s now row bytes slot = tests.Passed (zone_at l s) s.clock s.accepted s.rows now row bytes slot

-- its slot, or the number of the first test that refuses it
abbrev pub Passes : Limits → State → (now row bytes : ℕ) → Result Slot ShowFault → Type 0
Passes l s now row bytes r = tests.Passes (zone_at l s) s.clock s.accepted s.rows now row bytes r
