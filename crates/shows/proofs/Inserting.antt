-- What coming in and going out does to counts and places in ascending lists.
use Rattle.std.proofs.Common.{◌≡◌, ℕ, ◌+◌, ◌≤◌, Bool, true, false, cond, List, [], ◌∷◌, ◌++◌, length, sym, refl, ap, ◌∙◌, subst, ⊎_elim, arith}
use Rattle.std.specs.List.{AllByRecursion as All}
use Rattle.std.proofs.lemmas.Bool.{cases_Bool, cond-true, cond_both, both_ways, and_from}
use Rattle.records.specs.Linear.{Linear}
use Rattle.records.specs.Sorting.{insert, Ascending, later_than, same, count}
use Rattle.records.proofs.Sorting.{all_insert_back, insert_past, le_refl}

-- what holds of all holds of those in front, and of those behind
pub all_front : {R : Type 0} (P : R → Type 0) (xs ys : List R) → All P (xs ++ ys) → All P xs
all_front P [] ys h = tt
all_front P (x ∷ xs) ys h = (h.0, all_front P xs ys h.1)

pub all_back : {R : Type 0} (P : R → Type 0) (xs ys : List R) → All P (xs ++ ys) → All P ys
all_back P [] ys h = h
all_back P (x ∷ xs) ys h = all_back P xs ys h.1

module _ {R : Type 0} (le : R → R → Bool) where
  -- ---- counts
  pub count_append : (t : R) (xs ys : List R) → count le t (xs ++ ys) ≡ count le t xs + count le t ys
  count_append t [] ys = omega arith
  count_append t (x ∷ xs) ys = omega (arith, count_append t xs ys)

  pub count_insert : (t x : R) (xs : List R) → count le t (insert le x xs) ≡ cond (same le t x) 1 0 + count le t xs
  count_insert t x [] = refl
  count_insert t x (y ∷ ys) = cond_both (le x y) (x ∷ y ∷ ys) (y ∷ insert le x ys) (λ l. count le t l ≡ cond (same le t x) 1 0 + count le t (y ∷ ys)) (λ _. refl) (λ _. omega (arith, count_insert t x ys))

  -- ---- places
  -- x goes behind those that it stands after
  pub insert_after : (x : R) (front back : List R) → All (λ y. le x y ≡ false) front → insert le x (front ++ back) ≡ front ++ insert le x back
  insert_after x [] back h = refl
  insert_after x (y ∷ ys) back h = insert_past le x y (ys ++ back) h.0 ∙ ap (λ v. y ∷ v) (insert_after x ys back h.1)

  -- without a newcomer a list ascends as before
  pub ascending_without : (d : R) (rest : List R) → Ascending le (insert le d rest) → Ascending le rest
  ascending_without d [] = λ a. tt
  ascending_without d (y ∷ ys) =
      cond_both (le d y) (d ∷ y ∷ ys) (y ∷ insert le d ys) (λ l. Ascending le l → Ascending le (y ∷ ys))
      (λ _ a. a.1)
      (λ _ a. ((all_insert_back le (λ z. le y z ≡ true) d ys a.0).1, ascending_without d ys a.1))

  pub ascending_back : (front back : List R) → Ascending le (front ++ back) → Ascending le back
  ascending_back [] back a = a
  ascending_back (y ∷ ys) back a = ascending_back ys back a.1

  -- those before t stand no later
  pub before_no_later : (before : List R) (t : R) (after : List R) → Ascending le (before ++ (t ∷ after)) → All (λ y. le y t ≡ true) before
  before_no_later [] t after a = tt
  before_no_later (y ∷ ys) t after a = ((all_back (λ z. le y z ≡ true) ys (t ∷ after) a.0).0, before_no_later ys t after a.1)

  -- at least those that stand after d at the end stand after d
  pub later_end : (d : R) (front back : List R) → All (λ y. le y d ≡ false) back → length back ≤ later_than le d (front ++ back)
  later_end d [] [] h = omega arith
  later_end d [] (y ∷ ys) h = rw h.0 (omega (arith, later_end d [] ys h.1))
  later_end d (y ∷ ys) back h =
      let k = later_end d ys back h in
      cond_both (le y d) (later_than le d (ys ++ back)) (later_than le d (ys ++ back) + 1) (λ n. length back ≤ n) (λ _. k) (λ _. omega arith)

  module _ (l : Linear le) where
    pub one_self : (t : R) → ◌≡◌ {A = ℕ} (cond (same le t t) 1 0) 1
    one_self t = let s = le_refl le l t in cond-true (same le t t) 1 0 (and_from (le t t) (le t t) s s)

    pub count_stands : (t : R) (before after : List R) → 1 ≤ count le t (before ++ (t ∷ after))
    count_stands t before after = omega (arith, count_append t before (t ∷ after), one_self t)

    -- what stands no earlier than t, and is not t, stands after it
    pub none_again : (t : R) (xs : List R) → All (λ y. le t y ≡ true) xs → count le t xs ≡ 0 → All (λ y. le y t ≡ false) xs
    none_again t [] h n = tt
    none_again t (y ∷ ys) h n =
        ⊎_elim
        (λ (e : le y t ≡ true). let one : ◌≡◌ {A = ℕ} (cond (same le t y) 1 0) 1 = cond-true (same le t y) 1 0 (and_from (le t y) (le y t) h.0 e) in absurd (omega arith))
        (λ (e : le y t ≡ false). let none : count le t ys ≡ 0 = omega arith in (e, none_again t ys h.1 none))
        (cases_Bool (le y t))

    -- of a list that d came into behind `front`, `front` was there before
    pub without_behind : (d : R) (front back rest : List R) → All (λ y. le d y ≡ false) front → insert le d rest ≡ front ++ back → (mid : List R) × (rest ≡ front ++ mid) × (back ≡ insert le d mid)
    without_behind d [] back rest h e = (rest, refl, sym e)
    without_behind d (y ∷ ys) back [] h e =
        let is : d ≡ y = cc in
        absurd (both_ways (le d y) h.0 (subst (λ v. le d v ≡ true) is (le_refl le l d)))
    without_behind d (y ∷ ys) back (r ∷ rs) h e =
        ⊎_elim
        (λ (t : le d r ≡ true).
        let k : d ∷ r ∷ rs ≡ y ∷ (ys ++ back) = sym (cond-true (le d r) (d ∷ r ∷ rs) (r ∷ insert le d rs) t) ∙ e in
        let is : d ≡ y = cc in
        absurd (both_ways (le d y) h.0 (subst (λ v. le d v ≡ true) is (le_refl le l d))))
        (λ (f : le d r ≡ false).
        let k : r ∷ insert le d rs ≡ y ∷ (ys ++ back) = sym (insert_past le d r rs f) ∙ e in
        let is : r ≡ y = cc in
        let more = without_behind d ys back rs h.1 (cc) in
        let rest_is = more.1 in
        (more.0, (cc), more.2))
        (cases_Bool (le d r))
