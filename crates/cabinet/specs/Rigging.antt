-- What a setting answers.
use Rattle.std.specs.Prelude.{◌≡◌, ℕ, ◌<◌, ◌≤◌, Ok, Err, Result}
use Rattle.shows.specs.Faults.{number}
use Rattle.shows.specs.declared.fault.ShowFault.{ShowFault}

-- there are 64 rows; a row above them is refused by 2
abbrev pub Sets : {A : Type 0} → ℕ → Result A ShowFault → Type 0
Sets row (Ok _) = row < 64
Sets row (Err e) = (64 ≤ row) × (number e ≡ 2)
