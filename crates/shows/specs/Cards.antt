-- Which row cards can be made.
use Rattle.std.specs.Prelude.{◌≡◌, ℕ, Bool, true, false, ◌&&◌, Ok, Err, Result, nat_le}
use Rattle.shows.specs.Faults.{number}
use Rattle.shows.specs.declared.card.RowCard.{RowCard}
use Rattle.shows.specs.declared.fault.ShowFault.{ShowFault}

-- a pace is 1 to 1,000 ticks a byte, a burst at most 1,000,000 ticks
abbrev pub in_bounds : ℕ → ℕ → Bool
in_bounds pace burst = nat_le 1 pace && (nat_le pace 1000 && nat_le burst 1000000)

-- a card with just these, where they are in bounds, and refusal 10 elsewhere
abbrev pub Makes : ℕ → ℕ → Result RowCard ShowFault → Type 0
Makes pace burst (Ok card) = (in_bounds pace burst ≡ true) × (card.pace ≡ pace) × (card.burst ≡ burst)
Makes pace burst (Err e) = (in_bounds pace burst ≡ false) × (number e ≡ 10)
