-- Cells that stand ascending: read by places and as a list, their records first and the free cells last.
use Rattle.std.proofs.Common.{◌≡◌, ℕ, zero, suc, ◌+◌, ◌-◌, ◌<◌, ◌≤◌, Bool, true, false, cond, ◌⊎◌, List, [], ◌∷◌, ◌++◌, length, get_or, take, drop, replicate, sym, refl, ap, ◌∙◌, subst, ⊎_elim, arith, take-add}
use Rattle.std.specs.List.{AllByRecursion as All}
use Rattle.std.proofs.lemmas.Bool.{cases_Bool}
use Rattle.std.proofs.lemmas.List.{take-append-drop, drop-drop, drop_all, drop-append-le, drop-replicate, take-replicate, get_or-drop, get_or-take, take-take, length-take-le}
use Rattle.std.proofs.ByRecursion.{All-weaker}
use Rattle.records.specs.Linear.{Linear}
use Rattle.records.specs.Sorting.{insert, Ascending}
use Rattle.records.proofs.Sorting.{insert_first, sort_ascending}
use Rattle.queues.proofs.Cells.{kept, kept_within, kept_first, kept_none, is_blank}
use Rattle.queues.specs.Cells.{Counted}
use Rattle.standing.specs.Lines.{Ascends, put_cells, exchange_cells}
use Rattle.standing.proofs.Lists as lists

-- in a list of one value every place has it
pub get_or_same : {R : Type 0} (n i : ℕ) (a : R) → get_or (replicate n a) i a ≡ a
get_or_same zero i a = refl
get_or_same (suc n) zero a = refl
get_or_same (suc n) (suc i) a = get_or_same n i a

module _ {R : Type 0} (le : R → R → Bool) (blank : R) where
  -- ---- by places, and as a list
  pub ascending_from : (cells : List R) → Ascends le blank cells → Ascending le cells
  ascending_from cells a = lists.ascending_from le blank cells (λ i k h w. a i k (h, w))

  pub ascends_from : (cells : List R) → Ascending le cells → Ascends le blank cells
  ascends_from cells a i k h = lists.ascending_at le blank cells a i k h.0 h.1

  -- x goes before those that it stands no later than
  pub insert_before : (x : R) (a b : List R) → All (λ y. le x y ≡ true) b → insert le x (a ++ b) ≡ insert le x a ++ b
  insert_before x [] b h = insert_first le x b h
  insert_before x (y ∷ ys) b h =
      let more = insert_before x ys b h in
      elim (le x y) as (λ v. cond v (x ∷ y ∷ (ys ++ b)) (y ∷ insert le x (ys ++ b)) ≡ cond v (x ∷ y ∷ ys) (y ∷ insert le x ys) ++ b) [ true ↦ refl | false ↦ ap (λ v. y ∷ v) more ]

  module _ (l : Linear le) (ends : (x : R) → le x blank ≡ true) where
    -- ---- the free cells stand last
    all_free : (xs : List R) → All (λ y. le blank y ≡ true) xs → xs ≡ replicate (length xs) blank
    all_free [] a = refl
    all_free (y ∷ ys) a = let k = all_free ys a.1 in let e : y ≡ blank = is_blank le blank l ends y a.0 in cc

    free_kept : (cells : List R) → Ascending le cells → drop (length (kept le blank cells)) cells ≡ replicate (length cells - length (kept le blank cells)) blank
    free_kept [] a = refl
    free_kept (c ∷ cs) a =
        ⊎_elim
        (λ (t : le blank c ≡ true).
        let free : All (λ y. le blank y ≡ true) (c ∷ cs) = (t, All-weaker (λ y. le c y ≡ true) (λ y. le blank y ≡ true) (λ y p. l.trans blank c y t p) cs a.0) in
        let q : length (c ∷ cs) ≡ length (c ∷ cs) - 0 = omega arith in
        subst (λ v. drop (length v) (c ∷ cs) ≡ replicate (length (c ∷ cs) - length v) blank) (sym (kept_none le blank (c ∷ cs) free)) (all_free (c ∷ cs) free ∙ ap (λ v. replicate v blank) q))
        (λ (f : le blank c ≡ false).
        let q : length cs - length (kept le blank cs) ≡ suc (length cs) - suc (length (kept le blank cs)) = omega arith in
        subst (λ v. drop (length v) (c ∷ cs) ≡ replicate (length (c ∷ cs) - length v) blank) (sym (kept_first le blank c cs f)) (free_kept cs a.1 ∙ ap (λ v. replicate v blank) q))
        (cases_Bool (le blank c))

    -- nothing stands after the blank
    pub all_no_later : (x : R) (n : ℕ) → All (λ y. le x y ≡ true) (replicate n blank)
    all_no_later x zero = tt
    all_no_later x (suc n) = (ends x, all_no_later x n)

    module _ (cells : List R) (held : ℕ) (ascends : Ascends le blank cells) (counted : Counted le blank cells held) where
      pub ascending : Ascending le cells
      ascending = ascending_from cells ascends

      held_is : held ≡ length (kept le blank cells)
      held_is = counted ∙ ap (λ v. length (kept le blank v)) (sort_ascending le l cells ascending)

      pub within : held ≤ length cells
      within = let k = kept_within le blank cells in let e = held_is in omega arith

      pub free : drop held cells ≡ replicate (length cells - held) blank
      free = subst (λ v. drop v cells ≡ replicate (length cells - v) blank) (sym held_is) (free_kept cells ascending)

      free_from : (k : ℕ) → held ≤ k → drop k cells ≡ replicate (length cells - k) blank
      free_from k h =
          let q : held + (k - held) ≡ k = omega arith in
          let r : length cells - held - (k - held) ≡ length cells - k = omega arith in
          ap (λ v. drop v cells) (sym q) ∙ sym (drop-drop (k - held) held cells) ∙ ap (drop (k - held)) free ∙ drop-replicate (k - held) (length cells - held) blank ∙ ap (λ v. replicate v blank) r

      follow : (x : R) (k : ℕ) → held ≤ k → All (λ y. le x y ≡ true) (drop k cells)
      follow x k h = subst (All (λ y. le x y ≡ true)) (sym (free_from k h)) (all_no_later x (length cells - k))

      free_at : (i : ℕ) → get_or cells (held + i) blank ≡ blank
      free_at i = sym (get_or-drop held cells i blank) ∙ ap (λ v. get_or v i blank) free ∙ get_or_same (length cells - held) i blank

      -- the first record leaves, and x is set among the other records
      pub first_in : (x : R) → 0 < held → insert le x (drop 1 (take held cells)) ++ drop held cells ≡ exchange_cells le x cells
      first_in x h =
          let w = within in
          let n = length-take-le held cells w in
          let some : 1 ≤ length (take held cells) = omega arith in
          sym (insert_before x (drop 1 (take held cells)) (drop held cells) (follow x held (omega arith)))
          ∙ ap (insert le x) (sym (drop-append-le 1 (take held cells) (drop held cells) some) ∙ ap (drop 1) (take-append-drop held cells))

      -- the last cell leaves, and x is set among the records before it
      module _ (end : ℕ) (where_to : ((held < length cells) × (end ≡ held + 1)) ⊎ ((length cells ≤ held) × (end ≡ length cells))) where
        end_past : (held ≤ end) × (end ≤ length cells)
        end_past = let w = within in ⊎_elim (λ h. (omega arith, omega arith)) (λ h. (omega arith, omega arith)) where_to

        front_is : 0 < length cells → take (length cells - 1) cells ≡ take (end - 1) cells ++ drop end cells
        front_is some =
            let e = end_past in
            let w = within in
            let one : 1 ≤ end = ⊎_elim (λ h. omega arith) (λ h. omega arith) where_to in
            let q : end - 1 + (length cells - end) ≡ length cells - 1 = omega arith in
            let rest : take (length cells - end) (drop (end - 1) cells) ≡ drop end cells =
            ⊎_elim
            (λ h.
            let p : end - 1 ≡ held = omega arith in
            ap (λ v. take (length cells - end) (drop v cells)) p ∙ ap (take (length cells - end)) free ∙ take-replicate (length cells - end) (length cells - held) blank (omega arith) ∙ sym (free_from end e.0))
            (λ h.
            let p : length cells - end ≡ 0 = omega arith in
            ap (λ v. take v (drop (end - 1) cells)) p ∙ sym (drop_all end cells (omega arith)))
            where_to in
            ap (λ v. take v cells) (sym q) ∙ take-add (end - 1) (length cells - end) cells ∙ ap (λ v. take (end - 1) cells ++ v) rest

        pub last_in : (x : R) → 0 < length cells → insert le x (take (end - 1) (take end cells)) ++ drop end cells ≡ put_cells le x cells
        last_in x some =
            let e = end_past in
            let less : end - 1 ≤ end = omega arith in
            ap (λ v. insert le x v ++ drop end cells) (take-take (end - 1) end cells less)
            ∙ sym (insert_before x (take (end - 1) cells) (drop end cells) (follow x end e.0))
            ∙ ap (insert le x) (sym (front_is some))

        pub last_out : 0 < length cells → get_or (take end cells) (end - 1) blank ≡ get_or cells (length cells - 1) blank
        last_out some =
            let e = end_past in
            let w = within in
            let less : end - 1 < end = ⊎_elim (λ h. omega arith) (λ h. omega arith) where_to in
            get_or-take end cells (end - 1) blank less
            ∙ ⊎_elim
            (λ h. let p : held + 0 ≡ end - 1 = omega arith in let r : held + (length cells - 1 - held) ≡ length cells - 1 = omega arith in
            ap (λ v. get_or cells v blank) (sym p) ∙ free_at 0 ∙ sym (ap (λ v. get_or cells v blank) (sym r) ∙ free_at (length cells - 1 - held)))
            (λ h. ap (λ v. get_or cells (v - 1) blank) h.1)
            where_to
