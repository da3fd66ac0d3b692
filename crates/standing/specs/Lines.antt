-- Cells that stand ascending, the free ones last, and what each call makes of them.
use Rattle.std.specs.Prelude.{◌≡◌, ℕ, ◌-◌, ◌<◌, Bool, true, List, [], ◌∷◌, ◌++◌, length, take, drop, slice_index_or}
use Rattle.records.specs.Sorting.{insert}

module _ {R : Type 0} (le : R → R → Bool) (blank : R) where
  -- each cell stands no later than those after it
  abbrev pub Ascends : List R → Type 0
  Ascends cells = (i k : ℕ) → (i < k) × (k < length cells) → le (slice_index_or cells i blank) (slice_index_or cells k blank) ≡ true

-- after a put: all cells but the last, and x in its place among them
abbrev pub put_cells : {R : Type 0} → (R → R → Bool) → R → List R → List R
put_cells le x cells = insert le x (take (length cells - 1) cells)

-- after a take: all cells but the first, and a free one last
abbrev pub take_cells : {R : Type 0} → R → List R → List R
take_cells blank cells = drop 1 cells ++ (blank ∷ [])

-- after an exchange: all cells but the first, and x in its place among them
abbrev pub exchange_cells : {R : Type 0} → (R → R → Bool) → R → List R → List R
exchange_cells le x cells = insert le x (drop 1 cells)
