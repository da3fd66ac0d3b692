-- The shapes of a queue's cells.
use Rattle.std.specs.Prelude.{◌≡◌, ℕ, ◌*◌, ◌≤◌}

-- so many cells are m groups of n cells: 1 to 64 groups of 2 to 64 cells
pub record Fits (m n count : ℕ) : Type 0 where
  pub some : 1 ≤ m
  pub few : m ≤ 64
  pub two : 2 ≤ n
  pub small : n ≤ 64
  pub whole : count ≡ m * n

-- so many cells are a sorted queue's: 1 to 4,096
abbrev pub Shaped : ℕ → Type 0
Shaped count = (1 ≤ count) × (count ≤ 4096)
