-- The steps of m groups of n cells, from cells to cells: what they keep, and what they mean.
use Rattle.std.proofs.Common.{◌≡◌, ℕ, zero, suc, ◌+◌, ◌-◌, ◌*◌, ◌<◌, ◌≤◌, Bool, true, List, [], ◌∷◌, ◌++◌, length, get_or, take, drop, sym, refl, ap, ◌∙◌, subst, arith}
use Rattle.std.specs.List.{AllByRecursion as All}
use Rattle.std.proofs.lemmas.Bool.{both_ways}
use Rattle.std.proofs.lemmas.List.{get_or-take, take_more, take_all, append-nil, drop-append-le}
use Rattle.records.specs.Linear.{Linear}
use Rattle.records.specs.Sorting.{insert, sort, later, later_than, Filled}
use Rattle.standing.specs.Steps.{groups_of, flat, a_of, z_of, next_a, put_groups, take_groups, exchange_groups, put_cells, take_cells, exchange_cells}
use Rattle.standing.proofs.Lists.{sort_middle}
use Rattle.standing.proofs.Keeps.{Sound, put_sound, take_sound, exchange_sound}
use Rattle.standing.proofs.Means.{last_z, put_means, take_means, exchange_means, first_least}
use Rattle.standing.proofs.Ends.{last_cell, later_last, filled_all}
use Rattle.standing.proofs.Rows.{row_end, flat_groups}
use Rattle.standing.proofs.Places.{regroup}

pub length_groups : {R : Type 0} (m n : ℕ) (cells : List R) → length (groups_of m n cells) ≡ m
length_groups zero n cells = refl
length_groups (suc m) n cells = ap suc (length_groups m n (drop n cells))

module _ {R : Type 0} (le : R → R → Bool) (d : R) (n : ℕ) where
  length_put : (z : R) (gs : List (List R)) → length (put_groups le d n z gs) ≡ length gs
  length_put z [] = refl
  length_put z (g ∷ gs) = ap suc (length_put (z_of d n g) gs)

  length_taken : (gs : List (List R)) → length (take_groups le d n gs) ≡ length gs
  length_taken [] = refl
  length_taken (g ∷ gs) = ap suc (length_taken gs)

  length_exchanged : (a : R) (gs : List (List R)) → length (exchange_groups le d n a gs) ≡ length gs
  length_exchanged a [] = refl
  length_exchanged a (g ∷ gs) = ap suc (length_exchanged (later le (z_of d n g) (next_a d gs)) gs)

-- the first of all, and the rest
module _ {R : Type 0} (le : R → R → Bool) (l : Linear le) (d : R) (ends : (x : R) → le x d ≡ true) (n : ℕ) (two : 2 ≤ n) where
  rest_is : (m : ℕ) (cells : List R) → length cells ≡ suc m * n → Sound le d n (groups_of (suc m) n cells) → drop 1 (take n cells) ++ flat (groups_of m n (drop n cells)) ≡ drop 1 cells
  rest_is m cells e s = let k = s.0 in sym (drop-append-le 1 (take n cells) (flat (groups_of m n (drop n cells))) (omega arith)) ∙ ap (drop 1) (flat_groups (suc m) n cells e)

  pub first_is : (m : ℕ) (cells : List R) → 1 ≤ m → length cells ≡ m * n → Sound le d n (groups_of m n cells) → sort le cells ≡ get_or cells 0 d ∷ sort le (drop 1 cells)
  first_is zero cells some e s = absurd (omega arith)
  first_is (suc m) cells some e s =
      ap (sort le) (sym (flat_groups (suc m) n cells e))
      ∙ first_least le l d ends n two (take n cells) (groups_of m n (drop n cells)) s
      ∙ ap (λ v. a_of d (take n cells) ∷ sort le v) (rest_is m cells e s)
      ∙ ap (λ v. v ∷ sort le (drop 1 cells)) (get_or-take n cells 0 d (omega arith))

  pub take_is : (m : ℕ) (cells : List R) → 1 ≤ m → length cells ≡ m * n → Sound le d n (groups_of m n cells) → sort le (take_cells le d m n cells) ≡ insert le d (sort le (drop 1 cells))
  take_is zero cells some e s = absurd (omega arith)
  take_is (suc m) cells some e s = take_means le l d ends n two (take n cells) (groups_of m n (drop n cells)) s ∙ ap (λ v. insert le d (sort le v)) (rest_is m cells e s)

  pub exchange_is : (m : ℕ) (x : R) (cells : List R) → 1 ≤ m → length cells ≡ m * n → Sound le d n (groups_of m n cells) → sort le (exchange_cells le d m n x cells) ≡ insert le x (sort le (drop 1 cells))
  exchange_is zero x cells some e s = absurd (omega arith)
  exchange_is (suc m) x cells some e s = exchange_means le l d ends n two x (take n cells) (groups_of m n (drop n cells)) s ∙ ap (λ v. insert le x (sort le v)) (rest_is m cells e s)

  -- the last of all
  pub last_is : (m : ℕ) (cells : List R) → 1 ≤ m → length cells ≡ m * n → sort le cells ≡ insert le (get_or cells (m * n - 1) d) (sort le (take (m * n - 1) cells))
  last_is m cells some e =
      let r = row_end 0 m n some in
      let k = m * n - 1 in
      let whole : cells ≡ take k cells ++ get_or cells k d ∷ [] = sym (take_all (m * n - 1 + 1) cells (omega arith)) ∙ take_more cells k d (omega arith) in
      ap (sort le) whole ∙ sort_middle le l (take k cells) (get_or cells k d) [] ∙ ap (λ v. insert le (get_or cells k d) (sort le v)) (append-nil (take k cells))

  pub put_is : (m : ℕ) (x : R) (cells : List R) → 1 ≤ m → length cells ≡ m * n → Sound le d n (groups_of m n cells) → insert le (get_or cells (m * n - 1) d) (sort le (put_cells le d m n x cells)) ≡ insert le x (sort le cells)
  put_is zero x cells some e s = absurd (omega arith)
  put_is (suc m) x cells some e s =
      ap (λ v. insert le v (sort le (put_cells le d (suc m) n x cells))) (sym (last_cell d x m n cells two e))
      ∙ put_means le l d ends n two x (groups_of (suc m) n cells) s ∙ ap (λ v. insert le x (sort le v)) (flat_groups (suc m) n cells e)

  pub full_is : (m : ℕ) (cells : List R) → 1 ≤ m → length cells ≡ m * n → Sound le d n (groups_of m n cells) → Filled le d (get_or cells (m * n - 1) d) → All (Filled le d) cells
  full_is zero cells some e s f = absurd (omega arith)
  full_is (suc m) cells some e s f =
      subst (All (Filled le d)) (flat_groups (suc m) n cells e)
      (filled_all le l d ends n two d (groups_of (suc m) n cells) s (subst (Filled le d) (sym (last_cell d d m n cells two e)) f))

  pub near_is : (m : ℕ) (cells : List R) → 1 ≤ m → length cells ≡ m * n → Sound le d n (groups_of m n cells) → later_than le (get_or cells (m * n - 1) d) cells < m
  near_is zero cells some e s = absurd (omega arith)
  near_is (suc m) cells some e s =
      let k = (later_last le l d ends n two d (take n cells) (groups_of m n (drop n cells)) s).0 in
      let k1 = subst (λ v. later_than le (last_z d n d (groups_of (suc m) n cells)) v ≤ length (groups_of m n (drop n cells))) (flat_groups (suc m) n cells e) k in
      let k2 = subst (λ v. later_than le v cells ≤ length (groups_of m n (drop n cells))) (last_cell d d m n cells two e) k1 in
      let g = length_groups m n (drop n cells) in
      omega arith

  -- what each step keeps
  module _ (m : ℕ) (cells : List R) (s : Sound le d n (groups_of m n cells)) where
    pub put_keeps : (x : R) → Filled le d x → Sound le d n (groups_of m n (put_cells le d m n x cells)) × (length (put_cells le d m n x cells) ≡ m * n)
    put_keeps x f =
        let new = put_sound le l d ends n two x (groups_of m n cells) (λ t. absurd (both_ways (le d x) f t)) s in
        let r = regroup le d n m (put_groups le d n x (groups_of m n cells)) new (length_put le d n x (groups_of m n cells) ∙ length_groups m n cells) in
        (subst (Sound le d n) (sym r.0) new, r.1)

    pub take_keeps : Sound le d n (groups_of m n (take_cells le d m n cells)) × (length (take_cells le d m n cells) ≡ m * n)
    take_keeps =
        let new = take_sound le l d ends n two (groups_of m n cells) s in
        let r = regroup le d n m (take_groups le d n (groups_of m n cells)) new (length_taken le d n (groups_of m n cells) ∙ length_groups m n cells) in
        (subst (Sound le d n) (sym r.0) new, r.1)

    pub exchange_keeps : (x : R) → Filled le d x → Sound le d n (groups_of m n (exchange_cells le d m n x cells)) × (length (exchange_cells le d m n x cells) ≡ m * n)
    exchange_keeps x f =
        let new = exchange_sound le l d ends n two x (groups_of m n cells) (λ t. absurd (both_ways (le d x) f t)) s in
        let r = regroup le d n m (exchange_groups le d n x (groups_of m n cells)) new (length_exchanged le d n x (groups_of m n cells) ∙ length_groups m n cells) in
        (subst (Sound le d n) (sym r.0) new, r.1)
