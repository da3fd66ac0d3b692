-- What the steps mean: the cells before and after, sorted.
use Rattle.std.proofs.Common.{◌≡◌, ℕ, ◌≤◌, Bool, true, false, cond, List, [], ◌∷◌, ◌++◌, length, drop, sym, refl, ap, ◌∙◌, subst}
use Rattle.std.specs.List.{AllByRecursion as All}
use Rattle.std.proofs.lemmas.List.{append_assoc}
use Rattle.std.proofs.ByRecursion.{All-append, All-weaker}
use Rattle.records.specs.Linear.{Linear}
use Rattle.records.specs.Sorting.{insert, sort, Ascending, earlier, later}
use Rattle.records.proofs.Sorting.{insert_insert, insert_first}
use Rattle.queues.proofs.Cells.{all_sort}
use Rattle.standing.specs.Steps.{flat, a_of, s_of, z_of, next_a, put_groups, take_groups, exchange_groups}
use Rattle.standing.proofs.Lists.{sort_tail, sort_middle, sort_sorted}
use Rattle.standing.proofs.Parts.{a_rest, group_s_z, group_a}
use Rattle.standing.proofs.Keeps.{Sound, a_next}

-- Z of the last group, z where there is none
abbrev pub last_z : {R : Type 0} → R → ℕ → R → List (List R) → R
last_z d n z [] = z
last_z d n z (g ∷ gs) = last_z d n (z_of d n g) gs

module _ {R : Type 0} (le : R → R → Bool) (l : Linear le) (d : R) (ends : (x : R) → le x d ≡ true) (n : ℕ) (two : 2 ≤ n) where
  -- what leaves and what is left are z and what was there
  pub put_means : (z : R) (gs : List (List R)) → Sound le d n gs → insert le (last_z d n z gs) (sort le (flat (put_groups le d n z gs))) ≡ insert le z (sort le (flat gs))
  put_means z [] s = refl
  put_means z (g ∷ gs) (e, a, j, s) =
      let Z = z_of d n g in
      let w = last_z d n Z gs in
      let F = flat (put_groups le d n Z gs) in
      let front = z ∷ a_of d g ∷ s_of n g in
      ap (insert le w) (sort_sorted le l front F)
      ∙ sym (sort_middle le l front w F)
      ∙ sort_tail le front (w ∷ F) (Z ∷ flat gs) (put_means Z gs s)
      ∙ ap (insert le z) (ap (λ v. insert le (a_of d g) (sort le v)) (group_s_z d n two g (flat gs) e) ∙ ap (sort le) (group_a d n two g (flat gs) e))

  -- A of the first group leaves, and a blank comes in
  take_first : (g : List R) (gs : List (List R)) → length g ≡ n → sort le (next_a d gs ∷ flat (take_groups le d n gs)) ≡ sort le (d ∷ flat gs) → sort le (flat (take_groups le d n (g ∷ gs))) ≡ insert le d (sort le (drop 1 g ++ flat gs))
  take_first g gs e k =
      let B = next_a d gs in
      let F = flat (take_groups le d n gs) in
      sort_sorted le l (s_of n g ++ z_of d n g ∷ B ∷ []) F
      ∙ ap (sort le) (append_assoc (s_of n g) (z_of d n g ∷ B ∷ []) F ∙ group_s_z d n two g (B ∷ F) e)
      ∙ sort_tail le (drop 1 g) (B ∷ F) (d ∷ flat gs) k
      ∙ sort_middle le l (drop 1 g) d (flat gs)

  take_rest : (gs : List (List R)) → Sound le d n gs → sort le (next_a d gs ∷ flat (take_groups le d n gs)) ≡ sort le (d ∷ flat gs)
  take_rest [] s = refl
  take_rest (g ∷ gs) (e, a, j, s) =
      ap (insert le (a_of d g)) (take_first g gs e (take_rest gs s))
      ∙ insert_insert le l (a_of d g) d (sort le (drop 1 g ++ flat gs))
      ∙ ap (λ v. insert le d (sort le v)) (group_a d n two g (flat gs) e)

  pub take_means : (g : List R) (gs : List (List R)) → Sound le d n (g ∷ gs) → sort le (flat (take_groups le d n (g ∷ gs))) ≡ insert le d (sort le (drop 1 g ++ flat gs))
  take_means g gs (e, a, j, s) = take_first g gs e (take_rest gs s)

  -- A of the first group leaves, and x comes in
  exchange_first : (x : R) (g : List R) (gs : List (List R)) → length g ≡ n
      → sort le (earlier le (z_of d n g) (next_a d gs) ∷ flat (exchange_groups le d n (later le (z_of d n g) (next_a d gs)) gs)) ≡ sort le (z_of d n g ∷ flat gs)
      → sort le (flat (exchange_groups le d n x (g ∷ gs))) ≡ insert le x (sort le (drop 1 g ++ flat gs))
  exchange_first x g gs e k =
      let Z = z_of d n g in
      let low = earlier le Z (next_a d gs) in
      let F = flat (exchange_groups le d n (later le Z (next_a d gs)) gs) in
      sort_sorted le l (x ∷ s_of n g ++ low ∷ []) F
      ∙ ap (insert le x) (ap (sort le) (append_assoc (s_of n g) (low ∷ []) F) ∙ sort_tail le (s_of n g) (low ∷ F) (Z ∷ flat gs) k ∙ ap (sort le) (group_s_z d n two g (flat gs) e))

  -- two newcomers, the earlier and the later of them
  earlier_then_later : (a b : R) (xs : List R) → insert le (earlier le a b) (insert le (later le a b) xs) ≡ insert le a (insert le b xs)
  earlier_then_later a b xs = elim (le a b) as (λ t. insert le (cond t a b) (insert le (cond t b a) xs) ≡ insert le a (insert le b xs)) [ true ↦ refl | false ↦ insert_insert le l b a xs ]

  exchange_rest : (z : R) (gs : List (List R)) → Sound le d n gs → sort le (earlier le z (next_a d gs) ∷ flat (exchange_groups le d n (later le z (next_a d gs)) gs)) ≡ sort le (z ∷ flat gs)
  exchange_rest z [] s = rw (ends z)
  exchange_rest z (g ∷ gs) (e, a, j, s) =
      let B = a_of d g in
      ap (insert le (earlier le z B)) (exchange_first (later le z B) g gs e (exchange_rest (z_of d n g) gs s))
      ∙ earlier_then_later z B (sort le (drop 1 g ++ flat gs))
      ∙ ap (λ v. insert le z (sort le v)) (group_a d n two g (flat gs) e)

  pub exchange_means : (x : R) (g : List R) (gs : List (List R)) → Sound le d n (g ∷ gs) → sort le (flat (exchange_groups le d n x (g ∷ gs))) ≡ insert le x (sort le (drop 1 g ++ flat gs))
  exchange_means x g gs (e, a, j, s) = exchange_first x g gs e (exchange_rest (z_of d n g) gs s)

  -- A of the first group stands no later than all
  pub least : (g : List R) (gs : List (List R)) → Sound le d n (g ∷ gs) → All (λ y. le (a_of d g) y ≡ true) (drop 1 g ++ flat gs)
  least g [] (e, a, j, s) = All-append (λ y. le (a_of d g) y ≡ true) (drop 1 g) [] (subst (Ascending le) (sym (a_rest d n two g e)) a).0 tt
  least g (h ∷ hs) (e, a, j, s) =
      let ab = a_next le l d ends n two g (h ∷ hs) e j in
      let more = All-weaker (λ y. le (a_of d h) y ≡ true) (λ y. le (a_of d g) y ≡ true) (λ y p. l.trans (a_of d g) (a_of d h) y ab p) (drop 1 h ++ flat hs) (least h hs s) in
      All-append (λ y. le (a_of d g) y ≡ true) (drop 1 g) (flat (h ∷ hs)) (subst (Ascending le) (sym (a_rest d n two g e)) a).0 (subst (All (λ y. le (a_of d g) y ≡ true)) (group_a d n two h (flat hs) s.0) (ab, more))

  pub first_least : (g : List R) (gs : List (List R)) → Sound le d n (g ∷ gs) → sort le (flat (g ∷ gs)) ≡ a_of d g ∷ sort le (drop 1 g ++ flat gs)
  first_least g gs s =
      ap (sort le) (sym (group_a d n two g (flat gs) s.0))
      ∙ insert_first le (a_of d g) (sort le (drop 1 g ++ flat gs)) (all_sort le _ (drop 1 g ++ flat gs) (least g gs s))
