-- What a row tells of lengths that would come one after another.
use Rattle.std.specs.Prelude.{◌≡◌, ℕ, List, length, Ok, Err, Result}
use Rattle.shows.specs.Faults.{number}
use Rattle.shows.specs.Timing.{release_of, row_after, length_refusal, forecast_times, forecast_refusal, written}
use Rattle.shows.specs.declared.fault.ForecastFault.{ForecastFault}
use Rattle.shows.specs.declared.fault.ForecastFault.TheVariants.{Whole, At}
use Rattle.shows.specs.declared.row.Row.{Row}

-- one length at its place: its release, and the row moves on, or the number of its refusal
abbrev pub Tells : Row → (now bytes place : ℕ) → Result ℕ ForecastFault → Row → Type 0
Tells row now bytes place (Ok time) row' = (length_refusal row now bytes ≡ 0) × (time ≡ release_of row now) × (row' ≡ row_after row now bytes)
Tells row now bytes place (Err (Whole e)) row' = ⊥
Tells row now bytes place (Err (At p e)) row' = (number e ≡ length_refusal row now bytes) × (p ≡ place)

-- all lengths: how many there are, or the place of the first that is refused, and its number
abbrev pub Told : Row → ℕ → (lengths times : List ℕ) → Result ℕ ForecastFault → (times' : List ℕ) → Type 0
Told row now lengths times (Ok n) times' = (forecast_refusal row now lengths ≡ 0) × (n ≡ length lengths) × (times' ≡ written row now lengths times)
Told row now lengths times (Err (Whole e)) times' = ⊥
Told row now lengths times (Err (At place e)) times' = (number e ≡ forecast_refusal row now lengths) × (place ≡ length (forecast_times row now lengths)) × (times' ≡ written row now lengths times)
