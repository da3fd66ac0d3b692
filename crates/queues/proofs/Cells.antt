-- What a step over cells means for the records that they hold.
use Rattle.std.proofs.Common.{◌≡◌, ℕ, ◌+◌, ◌<◌, ◌≤◌, Bool, true, false, cond, not, List, [], ◌∷◌, length, Ok, Err, filter, sym, refl, ap, ◌∙◌, subst, inl, inr, ⊎_elim, arith}
use Rattle.std.proofs.lemmas.Bool.{cases_Bool, cond-true, cond-false, cond_both, both_ways, not-true, not_from_true, not_from_false}
use Rattle.std.proofs.ByRecursion.{All-weaker, all_kept_by, kept_by_passes}
use Rattle.std.specs.List.{AllByRecursion as All}
use Rattle.records.specs.Linear.{Linear}
use Rattle.records.specs.Sorting.{insert, sort, Ascending, later_than, Filled}
use Rattle.records.proofs.Sorting.{length_insert, all_insert, insert_first, insert_past, insert_insert, le_refl, other_way, above, ascending_sort}
use Rattle.queues.specs.Queues.{Lawful, Puts, Takes, Exchanges, first_of}
use Rattle.queues.specs.Cells.{held_in, take_answer, exchange_answer}
use Rattle.queues.specs.declared.queue.Put.TheVariants.{Kept, Displaced}
use Rattle.queues.specs.declared.fault.QueueFault.TheVariants.{Empty, Blank}

module _ {R : Type 0} (le : R → R → Bool) where
  -- ---- lists that are sorted
  pub length_sort : (xs : List R) → length (sort le xs) ≡ length xs
  length_sort [] = refl
  length_sort (x ∷ xs) = length_insert le x (sort le xs) ∙ (let h = length_sort xs in omega arith)

  pub all_sort : (P : R → Type 0) (xs : List R) → All P xs → All P (sort le xs)
  all_sort P [] a = tt
  all_sort P (x ∷ xs) a = all_insert le P x (sort le xs) a.0 (all_sort P xs a.1)

  pub later_insert_is : (d x : R) (xs : List R) → later_than le d (insert le x xs) ≡ later_than le d (x ∷ xs)
  later_insert_is d x [] = refl
  later_insert_is d x (y ∷ ys) =
      let h = later_insert_is d x ys in
      elim (le x y) as (λ b. later_than le d (cond b (x ∷ y ∷ ys) (y ∷ insert le x ys)) ≡ later_than le d (x ∷ y ∷ ys)) [ true ↦ refl | false ↦ grind arith ]

  pub later_sort : (d : R) (xs : List R) → later_than le d (sort le xs) ≡ later_than le d xs
  later_sort d [] = refl
  later_sort d (x ∷ xs) = later_insert_is d x (sort le xs) ∙ ap (λ v. cond (le x d) v (v + 1)) (later_sort d xs)

  -- one and the same newcomer tells two lists apart
  pub insert_same : ((x : R) → le x x ≡ true) → (x : R) (a b : List R) → insert le x a ≡ insert le x b → a ≡ b
  insert_same s x [] [] e = refl
  insert_same s x [] (b ∷ bs) e = let p = ap length e in let q = length_insert le x (b ∷ bs) in absurd (omega arith)
  insert_same s x (a ∷ as') [] e = let p = ap length e in let q = length_insert le x (a ∷ as') in absurd (omega arith)
  insert_same s x (a ∷ as') (b ∷ bs) e =
      ⊎_elim
      (λ (t : le x a ≡ true). ⊎_elim
      (λ (u : le x b ≡ true). let k : x ∷ a ∷ as' ≡ x ∷ b ∷ bs = sym (cond-true (le x a) (x ∷ a ∷ as') (a ∷ insert le x as') t) ∙ e ∙ cond-true (le x b) (x ∷ b ∷ bs) (b ∷ insert le x bs) u in cc)
      (λ (u : le x b ≡ false). let k : x ∷ a ∷ as' ≡ b ∷ insert le x bs = sym (cond-true (le x a) (x ∷ a ∷ as') (a ∷ insert le x as') t) ∙ e ∙ insert_past le x b bs u in
      let h : x ≡ b = cc in absurd (both_ways (le x b) u (subst (λ v. le x v ≡ true) h (s x))))
      (cases_Bool (le x b)))
      (λ (t : le x a ≡ false). ⊎_elim
      (λ (u : le x b ≡ true). let k : a ∷ insert le x as' ≡ x ∷ b ∷ bs = sym (insert_past le x a as' t) ∙ e ∙ cond-true (le x b) (x ∷ b ∷ bs) (b ∷ insert le x bs) u in
      let h : x ≡ a = cc in absurd (both_ways (le x a) t (subst (λ v. le x v ≡ true) h (s x))))
      (λ (u : le x b ≡ false). let k : a ∷ insert le x as' ≡ b ∷ insert le x bs = sym (insert_past le x a as' t) ∙ e ∙ insert_past le x b bs u in
      let h : a ≡ b = cc in
      let i : insert le x as' ≡ insert le x bs = cc in
      let j = insert_same s x as' bs i in cc)
      (cases_Bool (le x b)))
      (cases_Bool (le x a))

  -- ---- the records among the cells
  module _ (blank : R) where
    abbrev pub kept : List R → List R
    kept l = filter (λ x. not (le blank x)) l

    pub kept_within : (l : List R) → length (kept l) ≤ length l
    kept_within [] = omega arith
    kept_within (x ∷ xs) = let k = kept_within xs in elim (not (le blank x)) as (λ b. length (cond b (x ∷ kept xs) (kept xs)) ≤ length (x ∷ xs)) [ true ↦ omega arith | false ↦ omega arith ]

    pub kept_first : (x : R) (l : List R) → Filled le blank x → kept (x ∷ l) ≡ x ∷ kept l
    kept_first x l f = cond-true (not (le blank x)) (x ∷ kept l) (kept l) (not_from_false (le blank x) f)

    pub kept_free : (x : R) (l : List R) → le blank x ≡ true → kept (x ∷ l) ≡ kept l
    kept_free x l t = cond-false (not (le blank x)) (x ∷ kept l) (kept l) (not_from_true (le blank x) t)

    pub kept_all : (l : List R) → All (Filled le blank) l → kept l ≡ l
    kept_all [] a = refl
    kept_all (y ∷ ys) a = kept_first y ys a.0 ∙ ap (λ v. y ∷ v) (kept_all ys a.1)

    pub kept_none : (l : List R) → All (λ y. le blank y ≡ true) l → kept l ≡ []
    kept_none [] a = refl
    kept_none (y ∷ ys) a = kept_free y ys a.0 ∙ kept_none ys a.1

    pub kept_ascends : (l : List R) → Ascending le l → Ascending le (kept l)
    kept_ascends [] a = tt
    kept_ascends (x ∷ xs) a = elim (not (le blank x)) as (λ b. Ascending le (cond b (x ∷ kept xs) (kept xs))) [ true ↦ (all_kept_by (λ x. not (le blank x)) (λ y. le x y ≡ true) xs a.0, kept_ascends xs a.1) | false ↦ kept_ascends xs a.1 ]

    pub kept_filled : (l : List R) → All (Filled le blank) (kept l)
    kept_filled l = All-weaker (λ x. not (le blank x) ≡ true) (Filled le blank) (λ x p. not-true (le blank x) p) (kept l) (kept_by_passes (λ x. not (le blank x)) l)

    -- a free cell among others holds nothing
    pub insert_free : (x : R) (l : List R) → le blank x ≡ true → kept (insert le x l) ≡ kept l
    insert_free x [] b = kept_free x [] b
    insert_free x (y ∷ ys) b =
        cond_both (le x y) (x ∷ y ∷ ys) (y ∷ insert le x ys) (λ v. kept v ≡ kept (y ∷ ys))
        (λ _. kept_free x (y ∷ ys) b)
        (λ _. ap (λ v. cond (not (le blank y)) (y ∷ v) v) (insert_free x ys b))

    module _ (l : Linear le) where
      -- a record among others is kept in its place
      pub insert_filled : (x : R) (ys : List R) → Filled le blank x → Ascending le ys → kept (insert le x ys) ≡ insert le x (kept ys)
      insert_filled x [] f a = kept_first x [] f
      insert_filled x (y ∷ ys) f a =
          ⊎_elim
          (λ (t : le x y ≡ true).
          let far : All (λ w. le x w ≡ true) (y ∷ ys) = (t, above le l x y ys t a.0) in
          ap kept (insert_first le x (y ∷ ys) far) ∙ kept_first x (y ∷ ys) f ∙ sym (insert_first le x (kept (y ∷ ys)) (all_kept_by (λ w. not (le blank w)) (λ w. le x w ≡ true) (y ∷ ys) far)))
          (λ (n : le x y ≡ false).
          let yf : Filled le blank y = ⊎_elim (λ (s : le blank y ≡ true). absurd (both_ways (le blank x) f (l.trans blank y x s (other_way le l x y n)))) (λ (s : le blank y ≡ false). s) (cases_Bool (le blank y)) in
          ap kept (insert_past le x y ys n) ∙ kept_first y (insert le x ys) yf ∙ ap (λ v. y ∷ v) (insert_filled x ys f a.1) ∙ sym (insert_past le x y (kept ys) n) ∙ ap (insert le x) (sym (kept_first y ys yf)))
          (cases_Bool (le x y))

      -- what is held in any cells is as a queue holds it
      pub cells_lawful : (cells : List R) (room slack : ℕ) → length cells ≡ room → 1 ≤ room → 1 ≤ slack → Lawful le blank (held_in le blank cells) room slack
      cells_lawful cells room slack e r s = record {
        ascends = kept_ascends (sort le cells) (ascending_sort le l cells);
        filled = kept_filled (sort le cells);
        within = let k = kept_within (sort le cells) in let n = length_sort cells in omega arith;
        roomy = r;
        slackens = s;
      }

      module _ (ends : (x : R) → le x blank ≡ true) where
        -- only the blank stands no earlier than the blank
        pub is_blank : (x : R) → le blank x ≡ true → x ≡ blank
        is_blank x t = l.antisym x blank (ends x) t

        -- ---- take and exchange: a is the first of all cells
        module _ (old : List R) (a : R) (rest : List R) (first : sort le old ≡ a ∷ rest) where
          rest_after : All (λ y. le a y ≡ true) rest
          rest_after = let s : Ascending le (a ∷ rest) = subst (Ascending le) first (ascending_sort le l old) in s.0

          pub held_none : le blank a ≡ true → held_in le blank old ≡ []
          held_none t = ap kept first ∙ kept_none (a ∷ rest) (t, All-weaker (λ y. le a y ≡ true) (λ y. le blank y ≡ true) (λ y p. l.trans blank a y t p) rest rest_after)

          pub held_some : Filled le blank a → held_in le blank old ≡ a ∷ kept rest
          held_some f = ap kept first ∙ kept_first a rest f

          -- the first record, or none
          pub first_held : cond (le blank a) (first_of []) (first_of (a ∷ [])) ≡ first_of (held_in le blank old)
          first_held = cond_both (le blank a) (first_of []) (first_of (a ∷ [])) (λ v. v ≡ first_of (held_in le blank old)) (λ t. sym (ap first_of (held_none t))) (λ f. sym (ap first_of (held_some f)))

          module _ (new : List R) (room slack : ℕ) where
            pub takes_held : (le blank a ≡ true → new ≡ old) → (Filled le blank a → sort le new ≡ insert le blank rest) → Takes (held_in le blank) (λ _. room) (λ _. slack) old (take_answer le blank a) new
            takes_held same step =
                cond_both (le blank a) (Err Empty) (Ok a) (λ v. Takes (held_in le blank) (λ _. room) (λ _. slack) old v new)
                (λ t. (held_none t, refl, same t))
                (λ f. (held_some f ∙ ap (λ v. a ∷ v) (sym (ap kept (step f) ∙ insert_free blank rest (ends blank))), record { room_stays = refl; slack_stays = refl }))

            pub exchanges_held : (x : R) → (exchange_answer le blank x a ≡ Ok a → sort le new ≡ insert le x rest) → ((le blank x ≡ true) → new ≡ old) → (le blank a ≡ true → new ≡ old) → Exchanges le blank (held_in le blank) (λ _. room) (λ _. slack) old x (exchange_answer le blank x a) new
            exchanges_held x step same-blank same_None =
                ⊎_elim
                (λ (t : le blank x ≡ true). subst (λ v. Exchanges le blank (held_in le blank) (λ _. room) (λ _. slack) old x v new) (sym (cond-true (le blank x) (Err Blank) (take_answer le blank a) t)) (inl (is_blank x t, refl), same-blank t))
                (λ (f : le blank x ≡ false).
                let e = cond-false (le blank x) (Err Blank) (take_answer le blank a) f in
                ⊎_elim
                (λ (t : le blank a ≡ true). subst (λ v. Exchanges le blank (held_in le blank) (λ _. room) (λ _. slack) old x v new) (sym (e ∙ cond-true (le blank a) (Err Empty) (Ok a) t)) (inr (f, held_none t, refl), same_None t))
                (λ (n : le blank a ≡ false).
                let ok = e ∙ cond-false (le blank a) (Err Empty) (Ok a) n in
                let asc : Ascending le rest = let s : Ascending le (a ∷ rest) = subst (Ascending le) first (ascending_sort le l old) in s.1 in
                subst (λ v. Exchanges le blank (held_in le blank) (λ _. room) (λ _. slack) old x v new) (sym ok)
                (f, record { rest = kept rest; was = held_some n; is = ap kept (step ok) ∙ insert_filled x rest f asc }, record { room_stays = refl; slack_stays = refl }))
                (cases_Bool (le blank a)))
                (cases_Bool (le blank x))

        -- ---- put: x comes in among the cells, and z, one of them, goes out
        module _ (old new front : List R) (x z : R) (room slack : ℕ) (whole : length old ≡ room) (out : sort le old ≡ insert le z (sort le front)) where
          length_front : length front + 1 ≡ room
          length_front = let a = ap length out in let b = length_insert le z (sort le front) in let c = length_sort front in let d = length_sort old in omega arith

          held_old : held_in le blank old ≡ cond (le blank z) (kept (sort le front)) (insert le z (kept (sort le front)))
          held_old =
              ⊎_elim
              (λ (t : le blank z ≡ true). ap kept out ∙ insert_free z (sort le front) t ∙ sym (cond-true (le blank z) _ _ t))
              (λ (f : le blank z ≡ false). ap kept out ∙ insert_filled z (sort le front) f (ascending_sort le l front) ∙ sym (cond-false (le blank z) _ _ f))
              (cases_Bool (le blank z))

          pub free_below : le blank z ≡ true → length (held_in le blank old) < room
          free_below t =
              let e = ap length (held_old ∙ cond-true (le blank z) (kept (sort le front)) (insert le z (kept (sort le front))) t) in
              let w = kept_within (sort le front) in
              let s = length_sort front in
              let n = length_front in
              omega arith

          pub full_held : All (Filled le blank) old → length (held_in le blank old) ≡ room
          full_held a = ap length (kept_all (sort le old) (all_sort (Filled le blank) old a)) ∙ length_sort old ∙ whole

          -- a put that is not refused
          pub puts_held : Filled le blank x → insert le z (sort le new) ≡ insert le x (sort le old) → (Filled le blank z → All (Filled le blank) old) → (Filled le blank z → later_than le z old < slack) → Puts le blank (held_in le blank) (λ _. room) (λ _. slack) old x (Ok (cond (le blank z) Kept (Displaced z))) new
          puts_held rx step full near =
              let into : kept (insert le x (sort le old)) ≡ insert le x (held_in le blank old) = insert_filled x (sort le old) rx (ascending_sort le l old) in
              cond_both (le blank z) Kept (Displaced z) (λ v. Puts le blank (held_in le blank) (λ _. room) (λ _. slack) old x (Ok v) new)
              (λ t. (rx, free_below t, sym (insert_free z (sort le new) t) ∙ ap kept step ∙ into, record { room_stays = refl; slack_stays = refl }))
              (λ f.
              let rest = kept (sort le front) in
              let was : held_in le blank old ≡ insert le z rest = held_old ∙ cond-false (le blank z) rest (insert le z rest) f in
              let both : insert le z (held_in le blank new) ≡ insert le z (insert le x rest) = sym (insert_filled z (sort le new) f (ascending_sort le l new)) ∙ ap kept step ∙ into ∙ ap (insert le x) was ∙ insert_insert le l x z rest in
              let same : later_than le z (held_in le blank old) ≡ later_than le z old = ap (later_than le z) (kept_all (sort le old) (all_sort (Filled le blank) old (full f))) ∙ later_sort z old in
              (rx, full_held (full f), record { rest = rest; was = was; is = insert_same (le_refl le l) z (held_in le blank new) (insert le x rest) both; near = subst (λ v. v < slack) (sym same) (near f) }, record { room_stays = refl; slack_stays = refl }))
