-- Rows in time: what a telegram costs its row, when it is released, and when its row is free again.
use Rattle.std.specs.Prelude.{ℕ, ◌+◌, ◌*◌, max, Bool, true, false, cond, ◌||◌, List, [], ◌∷◌, ◌++◌, length, drop, Some, None, ◌==◌, nat_lt}
use Rattle.shows.specs.declared.row.Row.{Row}

-- the last tick
abbrev pub last_tick : ℕ
last_tick = 281474976710655

-- a row that is not set
abbrev pub no_row : Row
no_row = record { card = None; time = 0 }

-- the row has a card
abbrev pub is_set : Row → Bool
is_set row = elim row.card [ None ↦ false | Some card ↦ true ]

-- ticks a byte, and the ticks by which the row may be ahead; 0 where the row is not set
abbrev pub card_pace : Row → ℕ
card_pace row = elim row.card [ None ↦ 0 | Some card ↦ card.pace ]

abbrev pub card_burst : Row → ℕ
card_burst row = elim row.card [ None ↦ 0 | Some card ↦ card.burst ]

-- what so many bytes cost the row, in ticks
abbrev pub cost : Row → ℕ → ℕ
cost row bytes = bytes * card_pace row

-- the later of row time and now
abbrev pub release_of : Row → ℕ → ℕ
release_of row now = max row.time now

-- the tick at which the row is free again after so many bytes
abbrev pub free_after : Row → ℕ → ℕ → ℕ
free_after row now bytes = release_of row now + cost row bytes

-- the row, busy until then
abbrev pub row_after : Row → ℕ → ℕ → Row
row_after row now bytes = record { card = row.card; time = free_after row now bytes }

-- the tests of a length on its row: 64 to 1,518 bytes, and the row free again by the last tick
abbrev pub length_is_bad : ℕ → Bool
length_is_bad bytes = nat_lt bytes 64 || nat_lt 1518 bytes

abbrev pub overruns : Row → ℕ → ℕ → Bool
overruns row now bytes = nat_lt last_tick (free_after row now bytes)

-- Tests in their sequence, each with the number under which it refuses: the number of the first that refuses, or 0
abbrev pub first_refusal : List (Bool × ℕ) → ℕ
first_refusal [] = 0
first_refusal (test ∷ tests) = cond test.0 test.1 (first_refusal tests)

-- A forecast: the releases that lengths would get one after another, up to the first that is refused, and the number of that refusal, or 0
abbrev pub length_refusal : Row → ℕ → ℕ → ℕ
length_refusal row now bytes = first_refusal ((length_is_bad bytes, 3) ∷ (overruns row now bytes, 5) ∷ [])

abbrev pub forecast_times : Row → ℕ → List ℕ → List ℕ
forecast_times row now [] = []
forecast_times row now (n ∷ ns) = cond (length_refusal row now n == 0) (release_of row now ∷ forecast_times (row_after row now n) now ns) []

abbrev pub forecast_refusal : Row → ℕ → List ℕ → ℕ
forecast_refusal row now [] = 0
forecast_refusal row now (n ∷ ns) = cond (length_refusal row now n == 0) (forecast_refusal (row_after row now n) now ns) (length_refusal row now n)

-- the times with the releases written over them: only those before the first refused length, and none past the lengths
abbrev pub written : Row → ℕ → List ℕ → List ℕ → List ℕ
written row now lengths times = forecast_times row now lengths ++ drop (length (forecast_times row now lengths)) times
