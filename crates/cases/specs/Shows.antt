-- Zones and timing, worked.
use Rattle.std.specs.Prelude.{◌≡◌, [], ◌∷◌, Some}
use Rattle.std.proofs.Common.{lit<, lit≤}
use Rattle.shows.specs.Zones.{zone}
use Rattle.shows.specs.Timing.{release_of, row_after}
use Rattle.shows.specs.Calls.{Limits, State, admit_refusal}
use Rattle.shows.specs.declared.card.RowCard.{RowCard}
use Rattle.shows.specs.declared.row.Row.{Row}
use Rattle.shows.specs.declared.zone.Zone.TheVariants.{Green, Yellow, Red}
use Rattle.cases.specs.Cells.{at}

-- capacity 6, by the number held
pub record ZonesStand : Type 0 where
  pub one : zone 1 6 ≡ Green
  pub two : zone 2 6 ≡ Yellow
  pub three : zone 3 6 ≡ Yellow
  pub four : zone 4 6 ≡ Red

-- a row at pace 20 with burst 3,000: as it is set, after 100 bytes at 1,000, and after 64 more
abbrev pub card : RowCard
card = record { pace = 20; burst = 3000; bounds = (lit≤ tt, lit≤ tt, lit≤ tt) }

abbrev pub unused : Row
unused = record { card = Some card; time = 0 }

abbrev pub busy : Row
busy = row_after unused 1000 100

abbrev pub ahead : Row
ahead = row_after busy 1000 64

pub record TimesStand : Type 0 where
  pub at_once : release_of unused 1000 ≡ 1000
  pub behind_it : release_of busy 1000 ≡ 3000
  pub free_again : ahead.time ≡ 4280
  pub long_after : release_of ahead 9000 ≡ 9000
  pub free_after_that : (row_after ahead 9000 64).time ≡ 10280

-- yellow: 2 of 6 are held, and the row is ahead
abbrev pub limits : Limits
limits = record { capacity = 6; slack = 1 }

abbrev pub yellow : State
yellow = record { clock = 0; accepted = 2; departed = 0; displaced = 0; rows = ahead ∷ []; held = at 1 (lit< tt) ∷ at 2 (lit< tt) ∷ [] }

pub record BurstStands : Type 0 where
  pub within : admit_refusal limits yellow 1280 0 64 ≡ 0
  pub beyond : admit_refusal limits yellow 1279 0 64 ≡ 6
