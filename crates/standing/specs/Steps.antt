-- The three steps of a grouped queue, group by group. In a step all groups change together: each new group is read from the contents before it, and set ascending.
use Rattle.std.specs.Prelude.{ℕ, zero, suc, ◌-◌, Bool, List, [], ◌∷◌, ◌++◌, take, drop, slice_index_or}
use Rattle.records.specs.Sorting.{sort, earlier, later}

-- m groups of n cells, the first group first
abbrev pub groups_of : {R : Type 0} → ℕ → ℕ → List R → List (List R)
groups_of zero n cells = []
groups_of (suc m) n cells = take n cells ∷ groups_of m n (drop n cells)

-- the cells of groups, the first group's first
abbrev pub flat : {R : Type 0} → List (List R) → List R
flat [] = []
flat (g ∷ gs) = g ++ flat gs

-- A, the first cell of a group; the blank is not read where there is a cell
abbrev pub a_of : {R : Type 0} → R → List R → R
a_of blank g = slice_index_or g 0 blank

-- Z, the last of a group's n cells
abbrev pub z_of : {R : Type 0} → R → ℕ → List R → R
z_of blank n g = slice_index_or g (n - 1) blank

-- S, the cells between
abbrev pub s_of : {R : Type 0} → ℕ → List R → List R
s_of n g = take (n - 2) (drop 1 g)

-- A of the group that follows, and blank past the last group
abbrev pub next_a : {R : Type 0} → R → List (List R) → R
next_a blank [] = blank
next_a blank (g ∷ gs) = a_of blank g

module _ {R : Type 0} (le : R → R → Bool) (blank : R) where
  -- put: a group becomes z, its A and its S, where z is Z of the group before (the newcomer at the first)
  abbrev pub put_groups : ℕ → R → List (List R) → List (List R)
  put_groups n z [] = []
  put_groups n z (g ∷ gs) = sort le (z ∷ a_of blank g ∷ s_of n g) ∷ put_groups n (z_of blank n g) gs

  -- take: a group becomes its S, its Z and A of the group after
  abbrev pub take_groups : ℕ → List (List R) → List (List R)
  take_groups n [] = []
  take_groups n (g ∷ gs) = sort le (s_of n g ++ z_of blank n g ∷ next_a blank gs ∷ []) ∷ take_groups n gs

  -- exchange: a group becomes a, its S, and the earlier of its Z and A after it, where a is the later of Z before it and its A (the newcomer at the first)
  abbrev pub exchange_groups : ℕ → R → List (List R) → List (List R)
  exchange_groups n a [] = []
  exchange_groups n a (g ∷ gs) = sort le (a ∷ s_of n g ++ earlier le (z_of blank n g) (next_a blank gs) ∷ []) ∷ exchange_groups n (later le (z_of blank n g) (next_a blank gs)) gs

  -- the same steps of m groups of n cells, from cells to cells
  abbrev pub put_cells : ℕ → ℕ → R → List R → List R
  put_cells m n x cells = flat (put_groups n x (groups_of m n cells))

  abbrev pub take_cells : ℕ → ℕ → List R → List R
  take_cells m n cells = flat (take_groups n (groups_of m n cells))

  abbrev pub exchange_cells : ℕ → ℕ → R → List R → List R
  exchange_cells m n x cells = flat (exchange_groups n x (groups_of m n cells))
