-- The last cell: what stands after it, and what it says of the others.
use Rattle.std.proofs.Common.{◌≡◌, ℕ, zero, suc, ◌+◌, ◌-◌, ◌*◌, ◌≤◌, Bool, true, false, cond, List, [], ◌∷◌, ◌++◌, length, get_or, take, drop, sym, refl, ap, ◌∙◌, subst, ⊎_elim, suc-mul, zero-mul, arith}
use Rattle.std.specs.List.{AllByRecursion as All}
use Rattle.std.proofs.lemmas.Bool.{cases_Bool, both_ways}
use Rattle.std.proofs.lemmas.List.{get_or-take, get_or-drop, length-drop}
use Rattle.std.proofs.ByRecursion.{All-append, All-weaker}
use Rattle.records.specs.Linear.{Linear}
use Rattle.records.specs.Sorting.{Ascending, Filled, later_than}
use Rattle.records.proofs.Sorting.{le_refl}
use Rattle.standing.specs.Steps.{groups_of, flat, a_of, s_of, z_of}
use Rattle.standing.proofs.Parts.{parts, stands_a, stands_z}
use Rattle.standing.proofs.Keeps.{Sound, below}
use Rattle.standing.proofs.Means.{last_z}

module _ {R : Type 0} (le : R → R → Bool) (z : R) where
  later_append : (xs ys : List R) → later_than le z (xs ++ ys) ≡ later_than le z xs + later_than le z ys
  later_append [] ys = omega arith
  later_append (x ∷ xs) ys =
      let h = later_append xs ys in
      elim (le x z) as (λ b. cond b (later_than le z (xs ++ ys)) (later_than le z (xs ++ ys) + 1) ≡ cond b (later_than le z xs) (later_than le z xs + 1) + later_than le z ys) [ true ↦ h | false ↦ omega arith ]

  later_none : (xs : List R) → All (λ y. le y z ≡ true) xs → later_than le z xs ≡ 0
  later_none [] a = refl
  later_none (y ∷ ys) a = rw a.0 (later_none ys a.1)

  later_one : (x : R) → later_than le z (x ∷ []) ≤ 1
  later_one x = elim (le x z) as (λ b. cond b 0 (0 + 1) ≤ 1) [ true ↦ omega arith | false ↦ omega arith ]

-- Z of the last of m groups is the last cell
pub last_cell : {R : Type 0} (d x : R) (m n : ℕ) (cells : List R) → 2 ≤ n → length cells ≡ suc m * n → last_z d n x (groups_of (suc m) n cells) ≡ get_or cells (suc m * n - 1) d
last_cell d x zero n cells two e = let k : suc 0 * n - 1 ≡ n - 1 = omega (arith, suc-mul 0 n, zero-mul n) in get_or-take n cells (n - 1) d (omega arith) ∙ ap (λ v. get_or cells v d) (sym k)
last_cell d x (suc m) n cells two e =
    let s = suc-mul (suc m) n in
    let t = suc-mul m n in
    let ld = length-drop n cells in
    let k : n + (suc m * n - 1) ≡ suc (suc m) * n - 1 = omega arith in
    last_cell d (z_of d n (take n cells)) m n (drop n cells) two (omega arith) ∙ get_or-drop n cells (suc m * n - 1) d ∙ ap (λ v. get_or cells v d) k

module _ {R : Type 0} (le : R → R → Bool) (l : Linear le) (d : R) (ends : (x : R) → le x d ≡ true) (n : ℕ) (two : 2 ≤ n) where
  -- of each group but the last only Z can stand after the last cell
  pub later_last : (x : R) (g : List R) (gs : List (List R)) → Sound le d n (g ∷ gs) → (later_than le (last_z d n x (g ∷ gs)) (flat (g ∷ gs)) ≤ length gs) × (le (a_of d g) (last_z d n x (g ∷ gs)) ≡ true)
  later_last x g [] (e, a, j, s) =
      let Z = z_of d n g in
      let A = stands_a d n two le g e a in
      let all : All (λ y. le y Z ≡ true) g = subst (All (λ y. le y Z ≡ true)) (parts d n two g e) (A.1, All-append (λ y. le y Z ≡ true) (s_of n g) (Z ∷ []) (stands_z d n two le g e a).1 (le_refl le l Z, tt)) in
      let none = later_none le Z (g ++ []) (All-append (λ y. le y Z ≡ true) g [] all tt) in
      (omega arith, A.1)
  later_last x g (h ∷ hs) (e, a, j, s) =
      let r = later_last (z_of d n g) h hs s in
      let few = r.0 in
      let w = last_z d n (z_of d n g) (h ∷ hs) in
      let b = below le l d ends n two g h hs e j in
      let on : (y : R) → le y (a_of d h) ≡ true → le y w ≡ true = λ y p. l.trans y (a_of d h) w p r.1 in
      let front = later_none le w (a_of d g ∷ s_of n g) (on (a_of d g) b.0, All-weaker (λ y. le y (a_of d h) ≡ true) (λ y. le y w ≡ true) on (s_of n g) b.1) in
      let end = later_one le w (z_of d n g) in
      let group = ap (later_than le w) (sym (parts d n two g e)) ∙ later_append le w (a_of d g ∷ s_of n g) (z_of d n g ∷ []) in
      let all = later_append le w g (flat (h ∷ hs)) in
      (omega arith, on (a_of d g) b.0)

  filled_below : (y z : R) → le y z ≡ true → Filled le d z → Filled le d y
  filled_below y z p f = ⊎_elim (λ (t : le d y ≡ true). absurd (both_ways (le d z) f (l.trans d y z t p))) (λ (s : le d y ≡ false). s) (cases_Bool (le d y))

  filled_group : (g : List R) → length g ≡ n → Ascending le g → Filled le d (z_of d n g) → All (Filled le d) g
  filled_group g e a f =
      let Z = z_of d n g in
      let on : (y : R) → le y Z ≡ true → Filled le d y = λ y p. filled_below y Z p f in
      subst (All (Filled le d)) (parts d n two g e) (on (a_of d g) (stands_a d n two le g e a).1, All-append (Filled le d) (s_of n g) (Z ∷ []) (All-weaker (λ y. le y Z ≡ true) (Filled le d) on (s_of n g) (stands_z d n two le g e a).1) (f, tt))

  -- where the last cell holds a record, every cell does
  pub filled_all : (x : R) (gs : List (List R)) → Sound le d n gs → Filled le d (last_z d n x gs) → All (Filled le d) (flat gs)
  filled_all x [] s f = tt
  filled_all x (g ∷ []) (e, a, j, s) f = All-append (Filled le d) g [] (filled_group g e a f) tt
  filled_all x (g ∷ h ∷ hs) (e, a, j, s) f =
      let hw = (later_last (z_of d n g) h hs s).1 in
      let hf = filled_below (a_of d h) (last_z d n (z_of d n g) (h ∷ hs)) hw f in
      let zf : Filled le d (z_of d n g) = ⊎_elim (λ (t : le d (z_of d n g) ≡ true). absurd (both_ways (le d (a_of d h)) hf (j.1 t))) (λ (u : le d (z_of d n g) ≡ false). u) (cases_Bool (le d (z_of d n g))) in
      All-append (Filled le d) g (flat (h ∷ hs)) (filled_group g e a zf) (filled_all (z_of d n g) (h ∷ hs) s f)
