-- The slot that a row gives a telegram.
use Rattle.std.specs.Prelude.{◌≡◌, ℕ, true, false, Some, None, Option}
use Rattle.shows.specs.Timing.{release_of, row_after, overruns}
use Rattle.shows.specs.declared.row.Row.{Row}
use Rattle.slots.specs.declared.slot.Slot.{Slot}

-- the release and the row after it, where the row is free again by the last tick
pub record Given (row : Row) (now bytes : ℕ) (slot : Slot) : Type 0 where
  pub fits : overruns row now bytes ≡ false
  pub release : slot.release ≡ release_of row now
  pub after : slot.after ≡ row_after row now bytes

-- the slot, or none where the row would be busy past the last tick
abbrev pub Gives : Row → ℕ → ℕ → Option Slot → Type 0
Gives row now bytes None = overruns row now bytes ≡ true
Gives row now bytes (Some slot) = Given row now bytes slot
