-- What holds of the cells of a grouped queue between two steps: m groups of n cells, groups and places counted from 0.
use Rattle.std.specs.Prelude.{◌≡◌, ℕ, ◌+◌, ◌*◌, ◌<◌, Bool, true, List, slice_index_or}

-- the cell at place k of group i
abbrev pub cell : {R : Type 0} → R → ℕ → List R → ℕ → ℕ → R
cell blank n cells i k = slice_index_or cells (i * n + k) blank

module _ {R : Type 0} (le : R → R → Bool) (blank : R) (m n : ℕ) (cells : List R) where
  -- each group ascends
  abbrev pub Ascends : Type 0
  Ascends = (i k l : ℕ) → i < m → k < l → l < n → le (cell blank n cells i k) (cell blank n cells i l) ≡ true

  -- all of a group but its last stand no later than the first of the next group
  abbrev pub Staggers : Type 0
  Staggers = (i k : ℕ) → i + 1 < m → k + 1 < n → le (cell blank n cells i k) (cell blank n cells (i + 1) 0) ≡ true

  -- no blank stands in a group before a record of a later group
  abbrev pub Packs : Type 0
  Packs = (i j k l : ℕ) → i < j → j < m → k < n → l < n → le blank (cell blank n cells i k) ≡ true → le blank (cell blank n cells j l) ≡ true
