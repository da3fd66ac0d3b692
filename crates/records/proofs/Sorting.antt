-- Lemmas on ascending lists.
use Rattle.std.proofs.Common.{◌≡◌, ◌+◌, ◌≤◌, Bool, true, false, cond, List, [], ◌∷◌, length, sym, refl, ◌∙◌, ⊎_elim, arith}
use mathlib.Core.List.{Permᴰ}
use Rattle.std.specs.List.{AllByRecursion as All}
use Rattle.std.proofs.lemmas.Bool.{cases_Bool}
use Rattle.records.specs.Linear.{Linear}
use Rattle.records.specs.Sorting.{insert, sort, Ascending, later_than}

module _ {R : Type 0} (le : R → R → Bool) where
  pub length_insert : (x : R) (xs : List R) → length (insert le x xs) ≡ length xs + 1
  length_insert x [] = refl
  length_insert x (y ∷ ys) = elim (le x y) as (λ b. length (cond b (x ∷ y ∷ ys) (y ∷ insert le x ys)) ≡ length (y ∷ ys) + 1) [ true ↦ omega arith | false ↦ omega (arith, length_insert x ys) ]

  -- what holds of x and of each element holds of each element with x
  pub all_insert : (P : R → Type 0) (x : R) (xs : List R) → P x → All P xs → All P (insert le x xs)
  all_insert P x [] p a = (p, tt)
  all_insert P x (y ∷ ys) p a = elim (le x y) as (λ b. All P (cond b (x ∷ y ∷ ys) (y ∷ insert le x ys))) [ true ↦ (p, a) | false ↦ (a.0, all_insert P x ys p a.1) ]

  pub all_insert_back : (P : R → Type 0) (x : R) (xs : List R) → All P (insert le x xs) → P x × All P xs
  all_insert_back P x [] = λ a. (a.0, tt)
  all_insert_back P x (y ∷ ys) =
      elim (le x y) as (λ b. All P (cond b (x ∷ y ∷ ys) (y ∷ insert le x ys)) → P x × All P (y ∷ ys)) [ true ↦ λ a. (a.0, a.1) | false ↦ λ a. let k = all_insert_back P x ys a.1 in (k.0, (a.0, k.1)) ]

  -- at most one more stands after d
  pub later_insert : (d x : R) (xs : List R) → later_than le d (insert le x xs) ≤ later_than le d xs + 1
  later_insert d x [] = elim (le x d) as (λ b. cond b 0 (0 + 1) ≤ 0 + 1) [ true ↦ omega arith | false ↦ omega arith ]
  later_insert d x (y ∷ ys) =
      let h = later_insert d x ys in
      elim (le x y) as (λ b. later_than le d (cond b (x ∷ y ∷ ys) (y ∷ insert le x ys)) ≤ later_than le d (y ∷ ys) + 1) [ true ↦ grind arith | false ↦ grind arith ]

  -- x stands first
  pub insert_first : (x : R) (xs : List R) → All (λ y. le x y ≡ true) xs → insert le x xs ≡ x ∷ xs
  insert_first x [] a = refl
  insert_first x (y ∷ ys) a = rw a.0

  -- x stands after the first
  pub insert_past : (x y : R) (ys : List R) → le x y ≡ false → insert le x (y ∷ ys) ≡ y ∷ insert le x ys
  insert_past x y ys e = rw e

  module _ (l : Linear le) where
    pub le_refl : (x : R) → le x x ≡ true
    le_refl x = ⊎_elim (λ e. e) (λ e. e) (l.total x x)

    pub other_way : (x y : R) → le x y ≡ false → le y x ≡ true
    other_way x y e = ⊎_elim (λ t. grind arith) (λ t. t) (l.total x y)

    pub above : (x y : R) (ys : List R) → le x y ≡ true → All (λ z. le y z ≡ true) ys → All (λ z. le x z ≡ true) ys
    above x y [] e a = tt
    above x y (z ∷ zs) e a = (l.trans x y z e a.0, above x y zs e a.1)

    pub ascending_insert : (x : R) (xs : List R) → Ascending le xs → Ascending le (insert le x xs)
    ascending_insert x [] a = (tt, tt)
    ascending_insert x (y ∷ ys) a =
        ⊎_elim
        (λ e. rw e ((e, above x y ys e a.0), a))
        (λ e. rw e (all_insert (λ z. le y z ≡ true) x ys (other_way x y e) a.0, ascending_insert x ys a.1))
        (cases_Bool (le x y))

    pub ascending_sort : (xs : List R) → Ascending le (sort le xs)
    ascending_sort [] = tt
    ascending_sort (x ∷ xs) = ascending_insert x (sort le xs) (ascending_sort xs)

    -- two newcomers may come in either order
    pub insert_insert : (x y : R) (xs : List R) → insert le x (insert le y xs) ≡ insert le y (insert le x xs)
    insert_insert x y [] = grind (arith, l.total x y, l.antisym x y)
    insert_insert x y (z ∷ zs) =
        let k = insert_insert x y zs in
        grind (arith, l.total x y, l.antisym x y, l.trans x y z, l.trans y x z, k)

    pub sort_perm : {xs ys : List R} → Permᴰ xs ys → sort le xs ≡ sort le ys
    sort_perm Permᴰ.nil = refl
    sort_perm (Permᴰ.cons e p) = let k = sort_perm p in cc
    sort_perm (Permᴰ.swap {a = a} {b = b} {l = l'} e f) = let k = insert_insert a b (sort le l') in cc
    sort_perm (Permᴰ.trans p q) = sort_perm p ∙ sort_perm q

    -- an ascending list is sorted already
    pub sort_ascending : (xs : List R) → Ascending le xs → sort le xs ≡ xs
    sort_ascending [] a = refl
    sort_ascending (x ∷ xs) a = rw (sort_ascending xs a.1) (insert_first x xs a.0)

    -- the list that is held is all that matters: ascending lists with the same elements are equal
    pub ascending_one : (xs ys : List R) → Ascending le xs → Ascending le ys → Permᴰ xs ys → xs ≡ ys
    ascending_one xs ys a b p = sym (sort_ascending xs a) ∙ sort_perm p ∙ sort_ascending ys b
