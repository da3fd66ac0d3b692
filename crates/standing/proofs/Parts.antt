-- A group's A, S and Z.
use Rattle.std.proofs.Common.{◌≡◌, ℕ, suc, ◌+◌, ◌-◌, ◌<◌, ◌≤◌, Bool, true, List, [], ◌∷◌, ◌++◌, length, take, drop, sym, refl, ap, ◌∙◌, subst, arith}
use Rattle.std.specs.List.{AllByRecursion as All}
use Rattle.std.proofs.lemmas.List.{take_more, take_all, length-take-le, length-drop, append_assoc, append-nil}
use Rattle.records.specs.Linear.{Linear}
use Rattle.records.specs.Sorting.{insert, sort, Ascending}
use Rattle.records.proofs.Sorting.{sort_ascending}
use Rattle.standing.specs.Steps.{a_of, s_of, z_of}
use Rattle.standing.proofs.Lists.{all_append_back, ascending_push, ascending_tail, ascending_take, sort_middle}

module _ {R : Type 0} (d : R) (n : ℕ) (two : 2 ≤ n) where
  -- all but Z
  pub a_s : (g : List R) → length g ≡ n → a_of d g ∷ s_of n g ≡ take (n - 1) g
  a_s [] e = absurd (omega arith)
  a_s (a ∷ ts) e = let q : n - 1 ≡ suc (n - 2) = omega arith in rw q refl

  -- all but A
  pub s_z : (g : List R) → length g ≡ n → s_of n g ++ z_of d n g ∷ [] ≡ drop 1 g
  s_z [] e = absurd (omega arith)
  s_z (a ∷ ts) e =
      let q : n - 1 ≡ suc (n - 2) = omega arith in
      let l : n - 2 < length ts = omega arith in
      let m : length ts ≤ (n - 2) + 1 = omega arith in
      rw q (sym (take_more ts (n - 2) d l) ∙ take_all ((n - 2) + 1) ts m)

  pub a_rest : (g : List R) → length g ≡ n → a_of d g ∷ drop 1 g ≡ g
  a_rest [] e = absurd (omega arith)
  a_rest (a ∷ ts) e = refl

  pub parts : (g : List R) → length g ≡ n → a_of d g ∷ s_of n g ++ z_of d n g ∷ [] ≡ g
  parts g e = ap (λ v. a_of d g ∷ v) (s_z g e) ∙ a_rest g e

  pub length_s : (g : List R) → length g ≡ n → length (s_of n g) ≡ n - 2
  length_s g e = let k = length-drop 1 g in length-take-le (n - 2) (drop 1 g) (omega arith)

  -- a group with cells after it
  pub group_s_z : (g ys : List R) → length g ≡ n → s_of n g ++ z_of d n g ∷ ys ≡ drop 1 g ++ ys
  group_s_z g ys e = sym (append_assoc (s_of n g) (z_of d n g ∷ []) ys) ∙ ap (λ v. v ++ ys) (s_z g e)

  pub group_a : (g ys : List R) → length g ≡ n → a_of d g ∷ drop 1 g ++ ys ≡ g ++ ys
  group_a g ys e = ap (λ v. v ++ ys) (a_rest g e)

  module _ (le : R → R → Bool) where
    -- how the parts of an ascending group stand
    pub stands_a : (g : List R) → length g ≡ n → Ascending le g → All (λ y. le (a_of d g) y ≡ true) (s_of n g) × (le (a_of d g) (z_of d n g) ≡ true)
    stands_a g e a =
        let k = subst (Ascending le) (sym (parts g e)) a in
        let b = all_append_back (λ y. le (a_of d g) y ≡ true) (s_of n g) (z_of d n g ∷ []) k.0 in
        (b.0, b.1.0)

    pub stands_z : (g : List R) → length g ≡ n → Ascending le g → Ascending le (s_of n g) × All (λ y. le y (z_of d n g) ≡ true) (s_of n g)
    stands_z g e a = ascending_push le (s_of n g) (z_of d n g) (subst (Ascending le) (sym (s_z g e)) (ascending_tail le g a))

    module _ (l : Linear le) where
      -- the new group of each step: S with two newcomers
      pub put_group : (z : R) (g : List R) → length g ≡ n → Ascending le g → sort le (z ∷ a_of d g ∷ s_of n g) ≡ insert le z (insert le (a_of d g) (s_of n g))
      put_group z g e a = ap (λ v. insert le z (insert le (a_of d g) v)) (sort_ascending le l (s_of n g) (stands_z g e a).0)

      push : (xs : List R) (x : R) → Ascending le xs → sort le (xs ++ x ∷ []) ≡ insert le x xs
      push xs x a = sort_middle le l xs x [] ∙ ap (insert le x) (ap (sort le) (append-nil xs) ∙ sort_ascending le l xs a)

      pub exchange_group : (a x : R) (g : List R) → length g ≡ n → Ascending le g → sort le (a ∷ s_of n g ++ x ∷ []) ≡ insert le a (insert le x (s_of n g))
      exchange_group a x g e asc = ap (insert le a) (push (s_of n g) x (stands_z g e asc).0)

      pub take_group : (x : R) (g : List R) → length g ≡ n → Ascending le g → sort le (s_of n g ++ z_of d n g ∷ x ∷ []) ≡ insert le (z_of d n g) (insert le x (s_of n g))
      take_group x g e a = sort_middle le l (s_of n g) (z_of d n g) (x ∷ []) ∙ ap (insert le (z_of d n g)) (push (s_of n g) x (stands_z g e a).0)

      -- the same, as the program has it: one newcomer to the rest of the group
      pub put_one : (z : R) (g : List R) → length g ≡ n → Ascending le g → sort le (z ∷ a_of d g ∷ s_of n g) ≡ insert le z (take (n - 1) g)
      put_one z g e a = ap (λ v. insert le z (sort le v)) (a_s g e) ∙ ap (insert le z) (sort_ascending le l (take (n - 1) g) (ascending_take le (n - 1) g a))

      pub take_one : (x : R) (g : List R) → length g ≡ n → Ascending le g → sort le (s_of n g ++ z_of d n g ∷ x ∷ []) ≡ insert le x (drop 1 g)
      take_one x g e a = ap (sort le) (group_s_z g (x ∷ []) e) ∙ push (drop 1 g) x (ascending_tail le g a)
