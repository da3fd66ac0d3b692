-- The facts of the cells by their places, and the same facts group by group.
use Rattle.std.proofs.Common.{◌≡◌, ℕ, zero, suc, ◌+◌, ◌-◌, ◌*◌, ◌<◌, ◌≤◌, Bool, true, List, [], ◌∷◌, ◌++◌, length, get_or, take, drop, sym, refl, ap, ◌∙◌, subst, ⊎_elim, suc-mul, add-mul, zero-mul, add-one, arith}
use Rattle.std.specs.List.{AllByRecursion as All}
use Rattle.std.proofs.lemmas.Bool.{cases_order}
use Rattle.std.proofs.lemmas.List.{drop-drop, drop_at, take_at, get_or-take, get_or-drop, length-take-le, length-drop, length-append}
use Rattle.std.proofs.ByRecursion.{All-append, All-weaker, All-from_get_or, All-get_or}
use Rattle.records.specs.Linear.{Linear}
use Rattle.records.specs.Sorting.{Ascending}
use Rattle.standing.specs.Facts.{cell, Ascends, Staggers, Packs}
use Rattle.standing.specs.Steps.{groups_of, flat, a_of, z_of}
use Rattle.standing.proofs.Lists.{ascending_at}
use Rattle.standing.proofs.Parts.{a_rest, stands_a}
use Rattle.standing.proofs.Keeps.{Joined, Sound}
use Rattle.standing.proofs.Rows.{row_end, row_next, row, rows, rows_more, row_at, length_row, row_ascends, flat_groups}

-- ---- groups that are put together again
pub regroup : {R : Type 0} (le : R → R → Bool) (d : R) (n m : ℕ) (gs : List (List R)) → Sound le d n gs → length gs ≡ m → (groups_of m n (flat gs) ≡ gs) × (length (flat gs) ≡ m * n)
regroup le d n zero [] s e = (refl, sym (zero-mul n))
regroup le d n zero (g ∷ gs) s e = absurd (omega arith)
regroup le d n (suc m) [] s e = absurd (omega arith)
regroup le d n (suc m) (g ∷ gs) (lg, a, j, s) e =
    let k = regroup le d n m gs s (omega arith) in
    let sizes = k.1 in
    let a = take_at g (flat gs) n lg in
    let b : groups_of m n (drop n (g ++ flat gs)) ≡ gs = ap (groups_of m n) (drop_at g (flat gs) n lg) ∙ k.0 in
    let la = length-append g (flat gs) in
    let sm = suc-mul m n in
    (cc, omega arith)

module _ {R : Type 0} (le : R → R → Bool) (l : Linear le) (d : R) (n : ℕ) (two : 2 ≤ n) (m : ℕ) (E : List R) (sizes : length E ≡ m * n) where
  -- ---- from places to groups
  module _ (ascends : Ascends le d m n E) (staggers : Staggers le d m n E) (packs : Packs le d m n E) where
    joined_from : (k i : ℕ) → suc k + i ≡ m → Joined le d n (row n i E) (groups_of k n (drop ((i + 1) * n) E))
    joined_from zero i e = tt
    joined_from (suc k) i e =
        let h : i < m = omega arith in
        let h' : i + 1 < m = omega arith in
        let p : 0 < n = omega arith in
        let q : n - 1 < n = omega arith in
        let lr = length_row m n i E sizes h in
        let lt = length-take-le (n - 1) (row n i E) (omega arith) in
        let first = row_at d n (i + 1) 0 E p in
        let end = row_at d n i (n - 1) E q in (
          All-from_get_or (λ y. le y (a_of d (row n (i + 1) E)) ≡ true) (take (n - 1) (row n i E)) d (λ j b.
              let near : j < n - 1 = omega arith in
              let at = get_or-take (n - 1) (row n i E) j d near ∙ row_at d n i j E (omega arith) in
              subst (λ v. le v (a_of d (row n (i + 1) E)) ≡ true) (sym at) (subst (λ v. le (cell d n E i j) v ≡ true) (sym first) (staggers i j h' (omega arith)))),
          λ t. subst (λ v. le d v ≡ true) (sym first) (packs i (i + 1) (n - 1) 0 (omega arith) h' q p (subst (λ v. le d v ≡ true) end t)),
        )

    sound_from : (k i : ℕ) → k + i ≡ m → Sound le d n (groups_of k n (drop (i * n) E))
    sound_from zero i e = tt
    sound_from (suc k) i e =
        let h : i < m = omega arith in
        let on : drop n (drop (i * n) E) ≡ drop ((i + 1) * n) E = drop-drop n (i * n) E ∙ ap (λ v. drop v E) (sym (row_next i n)) in (
          length_row m n i E sizes h,
          row_ascends le d m n i E sizes ascends h,
          subst (λ v. Joined le d n (row n i E) (groups_of k n v)) (sym on) (joined_from k i e),
          subst (λ v. Sound le d n (groups_of k n v)) (sym on) (sound_from k (i + 1) (omega arith)),
        )

    pub groups_sound : Sound le d n (groups_of m n E)
    groups_sound = subst (λ v. Sound le d n (groups_of m n (drop v E))) (zero-mul n) (sound_from m 0 (omega arith))

  -- ---- from groups to places
  module _ (sound : Sound le d n (groups_of m n E)) where
    rows_sound : (i : ℕ) → i ≤ m → Sound le d n (rows m n i E)
    rows_sound zero h = let z : m ≡ m - 0 = omega arith in subst (λ v. Sound le d n (groups_of v n (drop (0 * n) E))) z (subst (λ v. Sound le d n (groups_of m n (drop v E))) (sym (zero-mul n)) sound)
    rows_sound (suc i) h =
        let s : Sound le d n (row n i E ∷ rows m n (i + 1) E) = subst (Sound le d n) (rows_more m n i E (omega arith)) (rows_sound i (omega arith)) in
        subst (λ v. Sound le d n (rows m n v E)) (add-one i) s.3

    at_row : (i : ℕ) → i < m → Sound le d n (row n i E ∷ rows m n (i + 1) E)
    at_row i h = subst (Sound le d n) (rows_more m n i E h) (rows_sound i (omega arith))

    pub groups_ascend : Ascends le d m n E
    groups_ascend i k j h p q =
        let s = at_row i h in
        let lr = length_row m n i E sizes h in
        let a = ascending_at le d (row n i E) s.1 k j p (omega arith) in
        subst (λ v. le v (cell d n E i j) ≡ true) (row_at d n i k E (omega arith)) (subst (λ v. le (get_or (row n i E) k d) v ≡ true) (row_at d n i j E q) a)

    pub groups_stagger : Staggers le d m n E
    groups_stagger i k h p =
        let low : i < m = omega arith in
        let near : k < n - 1 = omega arith in
        let j = subst (Joined le d n (row n i E)) (rows_more m n (i + 1) E h) (at_row i low).2 in
        let lr = length_row m n i E sizes low in
        let lt = length-take-le (n - 1) (row n i E) (omega arith) in
        let b = All-get_or (λ y. le y (a_of d (row n (i + 1) E)) ≡ true) (take (n - 1) (row n i E)) k d (omega arith) j.0 in
        let at = get_or-take (n - 1) (row n i E) k d near ∙ row_at d n i k E (omega arith) in
        subst (λ v. le v (cell d n E (i + 1) 0) ≡ true) at (subst (λ v. le (get_or (take (n - 1) (row n i E)) k d) v ≡ true) (row_at d n (i + 1) 0 E (omega arith)) b)

    -- after a group that ends in a blank all are blank
    blank_after : (g : List R) (gs : List (List R)) → Sound le d n (g ∷ gs) → le d (z_of d n g) ≡ true → All (λ y. le d y ≡ true) (flat gs)
    blank_after g [] s t = tt
    blank_after g (h ∷ hs) (e, a, j, (e', a', j', s)) t =
        let first = j.1 t in
        let asc : Ascending le (a_of d h ∷ drop 1 h) = subst (Ascending le) (sym (a_rest d n two h e')) a' in
        let all = subst (All (λ y. le d y ≡ true)) (a_rest d n two h e') (first, All-weaker (λ y. le (a_of d h) y ≡ true) (λ y. le d y ≡ true) (λ y p. l.trans d (a_of d h) y first p) (drop 1 h) asc.0) in
        All-append (λ y. le d y ≡ true) h (flat hs) all (blank_after h hs (e', a', j', s) (l.trans d (a_of d h) (z_of d n h) first (stands_a d n two le h e' a').1))

    -- a blank in group i makes its last blank
    blank_last : (i k : ℕ) → i < m → k < n → le d (get_or (row n i E) k d) ≡ true → le d (z_of d n (row n i E)) ≡ true
    blank_last i k h p t =
        let lr = length_row m n i E sizes h in
        ⊎_elim
        (λ (e : k ≡ n - 1). subst (λ v. le d (get_or (row n i E) v d) ≡ true) e t)
        (⊎_elim
        (λ (b : k < n - 1). l.trans d _ _ t (ascending_at le d (row n i E) (at_row i h).1 k (n - 1) b (omega arith)))
        (λ (b : n - 1 < k). absurd (omega arith)))
        (cases_order k (n - 1))

    pub groups_pack : Packs le d m n E
    groups_pack i j k q h b p c t =
        let low : i < m = omega arith in
        let r = row_end j m n b in
        let next = row_next i n in
        let up = row_end i j n h in
        let end = blank_last i k low p (subst (λ v. le d v ≡ true) (sym (row_at d n i k E p)) t) in
        let ld = length-drop ((i + 1) * n) E in
        let part : (m - (i + 1)) * n + (i + 1) * n ≡ m * n = sym (add-mul (m - (i + 1)) (i + 1) n) ∙ ap (λ v. v * n) (omega arith) in
        let all = subst (All (λ y. le d y ≡ true)) (flat_groups (m - (i + 1)) n (drop ((i + 1) * n) E) (omega arith)) (blank_after (row n i E) (rows m n (i + 1) E) (at_row i low) end) in
        let at = j * n + q - (i + 1) * n in
        let back : (i + 1) * n + (j * n + q - (i + 1) * n) ≡ j * n + q = omega arith in
        subst (λ v. le d v ≡ true) (get_or-drop ((i + 1) * n) E at d ∙ ap (λ v. get_or E v d) back) (All-get_or (λ y. le d y ≡ true) (drop ((i + 1) * n) E) at d (omega arith) all)
