-- Ascending lists: their parts, what a sort does to a list in parts, and the front of a list with a newcomer.
use Rattle.std.proofs.Common.{◌≡◌, ℕ, zero, suc, ◌<◌, Bool, true, false, cond, List, [], ◌∷◌, ◌++◌, length, get_or, take, drop, refl, ap, ◌∙◌, ⊎_elim, arith}
use Rattle.std.specs.List.{AllByRecursion as All}
use Rattle.std.proofs.lemmas.Bool.{cases_Bool}
use Rattle.std.proofs.ByRecursion.{All-take, All-from_get_or, All-get_or}
use Rattle.records.specs.Linear.{Linear}
use Rattle.records.specs.Sorting.{insert, sort, Ascending}
use Rattle.records.proofs.Sorting.{insert_insert}

-- two facts of each element make a third
pub all_both : {R : Type 0} (P Q S : R → Type 0) → ((x : R) → P x → Q x → S x) → (xs : List R) → All P xs → All Q xs → All S xs
all_both P Q S f [] a b = tt
all_both P Q S f (x ∷ xs) a b = (f x a.0 b.0, all_both P Q S f xs a.1 b.1)

pub all_append_back : {R : Type 0} (P : R → Type 0) (xs ys : List R) → All P (xs ++ ys) → All P xs × All P ys
all_append_back P [] ys a = (tt, a)
all_append_back P (x ∷ xs) ys a = let k = all_append_back P xs ys a.1 in ((a.0, k.0), k.1)

module _ {R : Type 0} (le : R → R → Bool) where
  pub ascending_take : (k : ℕ) (xs : List R) → Ascending le xs → Ascending le (take k xs)
  ascending_take zero xs a = tt
  ascending_take (suc k) [] a = tt
  ascending_take (suc k) (x ∷ xs) a = (All-take (λ y. le x y ≡ true) k xs a.0, ascending_take k xs a.1)

  pub ascending_tail : (xs : List R) → Ascending le xs → Ascending le (drop 1 xs)
  ascending_tail [] a = tt
  ascending_tail (x ∷ xs) a = a.1

  -- the parts of an ascending list that ends in z
  pub ascending_push : (xs : List R) (z : R) → Ascending le (xs ++ z ∷ []) → Ascending le xs × All (λ y. le y z ≡ true) xs
  ascending_push [] z a = (tt, tt)
  ascending_push (x ∷ xs) z a =
      let k = ascending_push xs z a.1 in
      let b = all_append_back (λ y. le x y ≡ true) xs (z ∷ []) a.0 in
      ((b.0, k.0), (b.1.0, k.1))

  -- ascending by places, and back
  pub ascending_from : (d : R) (xs : List R) → ((k l : ℕ) → k < l → l < length xs → le (get_or xs k d) (get_or xs l d) ≡ true) → Ascending le xs
  ascending_from d [] f = tt
  ascending_from d (x ∷ xs) f = (
    All-from_get_or (λ y. le x y ≡ true) xs d (λ i h. f 0 (suc i) (omega arith) (omega arith)),
    ascending_from d xs (λ k l h i. f (suc k) (suc l) (omega arith) (omega arith)),
  )

  pub ascending_at : (d : R) (xs : List R) → Ascending le xs → (k l : ℕ) → k < l → l < length xs → le (get_or xs k d) (get_or xs l d) ≡ true
  ascending_at d [] a k l h i = absurd (omega arith)
  ascending_at d (x ∷ xs) a k zero h i = absurd (omega arith)
  ascending_at d (x ∷ xs) a zero (suc l) h i = All-get_or (λ y. le x y ≡ true) xs l d (omega arith) a.0
  ascending_at d (x ∷ xs) a (suc k) (suc l) h i = ascending_at d xs a.1 k l (omega arith) (omega arith)

  -- how a list sorts is all that matters to a list before it
  pub sort_tail : (xs ys zs : List R) → sort le ys ≡ sort le zs → sort le (xs ++ ys) ≡ sort le (xs ++ zs)
  sort_tail [] ys zs e = e
  sort_tail (x ∷ xs) ys zs e = ap (insert le x) (sort_tail xs ys zs e)

  module _ (l : Linear le) where
    -- one from the middle comes in last
    pub sort_middle : (xs : List R) (y : R) (ys : List R) → sort le (xs ++ y ∷ ys) ≡ insert le y (sort le (xs ++ ys))
    sort_middle [] y ys = refl
    sort_middle (x ∷ xs) y ys = ap (insert le x) (sort_middle xs y ys) ∙ insert_insert le l x y (sort le (xs ++ ys))

    sort_insert : (x : R) (xs ys : List R) → sort le (insert le x xs ++ ys) ≡ insert le x (sort le (xs ++ ys))
    sort_insert x [] ys = refl
    sort_insert x (y ∷ xs) ys =
        elim (le x y) as (λ b. sort le (cond b (x ∷ y ∷ xs) (y ∷ insert le x xs) ++ ys) ≡ insert le x (insert le y (sort le (xs ++ ys))))
        [ true ↦ refl | false ↦ ap (insert le y) (sort_insert x xs ys) ∙ insert_insert le l y x (sort le (xs ++ ys)) ]

    -- a part that is sorted first
    pub sort_sorted : (xs ys : List R) → sort le (sort le xs ++ ys) ≡ sort le (xs ++ ys)
    sort_sorted [] ys = refl
    sort_sorted (x ∷ xs) ys = sort_insert x (sort le xs) ys ∙ ap (insert le x) (sort_sorted xs ys)

    -- with a newcomer, all but the last stand no later than what stood after all
    pub front_insert : (b x : R) (xs : List R) → All (λ y. le y b ≡ true) xs → All (λ y. le y b ≡ true) (take (length xs) (insert le x xs))
    front_insert b x [] a = tt
    front_insert b x (y ∷ ys) a =
        ⊎_elim
        (λ (e : le x y ≡ true). rw e (l.trans x y b e a.0, All-take (λ y. le y b ≡ true) (length ys) (y ∷ ys) a))
        (λ (e : le x y ≡ false). rw e (a.0, front_insert b x ys a.1))
        (cases_Bool (le x y))
