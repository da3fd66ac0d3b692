-- Whether a zone lets a row in that is ahead.
use Rattle.std.specs.Prelude.{◌≡◌, ℕ, Ok, Err, Result}
use Rattle.shows.specs.Calls.{zone_tests}
use Rattle.shows.specs.Faults.{number}
use Rattle.shows.specs.Timing.{first_refusal}
use Rattle.shows.specs.declared.fault.ShowFault.{ShowFault}
use Rattle.shows.specs.declared.row.Row.{Row}
use Rattle.shows.specs.declared.zone.Zone.{Zone}

-- the number of the zone's test that refuses the row, or 0
abbrev pub zone_refusal : Zone → Row → ℕ → ℕ
zone_refusal z row now = first_refusal (zone_tests z row now)

-- the zone lets the row in, or refuses it by that number
abbrev pub Judges : {A : Type 0} → Zone → Row → ℕ → Result A ShowFault → Type 0
Judges z row now (Ok _) = zone_refusal z row now ≡ 0
Judges z row now (Err e) = number e ≡ zone_refusal z row now
