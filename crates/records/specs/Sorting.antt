-- Ascending lists under an order that is given by a test `le x y`, "x stands no later than y".
use Rattle.std.specs.Prelude.{◌≡◌, ℕ, ◌+◌, Bool, true, false, cond, ◌&&◌, List, [], ◌∷◌}
use Rattle.std.specs.List.{AllByRecursion}

-- the list with one more: x goes before the first that it stands no later than
abbrev pub insert : {R : Type 0} → (R → R → Bool) → R → List R → List R
insert le x [] = x ∷ []
insert le x (y ∷ ys) = cond (le x y) (x ∷ y ∷ ys) (y ∷ insert le x ys)

-- the same values, set ascending
abbrev pub sort : {R : Type 0} → (R → R → Bool) → List R → List R
sort le [] = []
sort le (x ∷ xs) = insert le x (sort le xs)

-- each stands no later than all that follow
abbrev pub Ascending : {R : Type 0} → (R → R → Bool) → List R → Type 0
Ascending le [] = Unit {0}
Ascending le (x ∷ xs) = AllByRecursion (λ y. le x y ≡ true) xs × Ascending le xs

-- how many of the list stand after d
abbrev pub later_than : {R : Type 0} → (R → R → Bool) → R → List R → ℕ
later_than le d [] = 0
later_than le d (y ∷ ys) = cond (le y d) (later_than le d ys) (later_than le d ys + 1)

-- the one of two that stands first (the first named on a tie), and the other
abbrev pub earlier : {R : Type 0} → (R → R → Bool) → R → R → R
earlier le a b = cond (le a b) a b

abbrev pub later : {R : Type 0} → (R → R → Bool) → R → R → R
later le a b = cond (le a b) b a

-- x is a record, and not the blank
abbrev pub Filled : {R : Type 0} → (R → R → Bool) → R → R → Type 0
Filled le blank x = le blank x ≡ false

-- each of two stands no later than the other: they are equal in every field
abbrev pub same : {R : Type 0} → (R → R → Bool) → R → R → Bool
same le x y = le x y && le y x

-- how often x stands in a list
abbrev pub count : {R : Type 0} → (R → R → Bool) → R → List R → ℕ
count le x [] = 0
count le x (y ∷ ys) = cond (same le x y) 1 0 + count le x ys
