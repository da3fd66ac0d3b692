-- What each step keeps: groups of n cells that ascend, each joined to the next.
use Rattle.std.proofs.Common.{◌≡◌, ℕ, ◌-◌, ◌≤◌, Bool, true, false, cond, List, [], ◌∷◌, length, take, sym, refl, subst, arith}
use Rattle.std.specs.List.{AllByRecursion as All}
use Rattle.std.proofs.ByRecursion.{All-weaker, All-get_or}
use Rattle.records.specs.Linear.{Linear}
use Rattle.records.specs.Sorting.{insert, Ascending, earlier, later}
use Rattle.records.proofs.Sorting.{length_insert, all_insert, ascending_insert, le_refl, other_way}
use Rattle.standing.specs.Steps.{a_of, s_of, z_of, next_a, put_groups, take_groups, exchange_groups}
use Rattle.standing.proofs.Lists.{all_both, front_insert}
use Rattle.standing.proofs.Parts.{a_s, length_s, stands_a, stands_z, put_group, take_group, exchange_group}

module _ {R : Type 0} (le : R → R → Bool) (d : R) (n : ℕ) where
  -- all of a group but its Z stand no later than A of the next, and where Z is blank that A is
  abbrev pub Joined : List R → List (List R) → Type 0
  Joined g [] = Unit {0}
  Joined g (h ∷ hs) = All (λ y. le y (a_of d h) ≡ true) (take (n - 1) g) × (le d (z_of d n g) ≡ true → le d (a_of d h) ≡ true)

  abbrev pub Sound : List (List R) → Type 0
  Sound [] = Unit {0}
  Sound (g ∷ gs) = (length g ≡ n) × Ascending le g × Joined g gs × Sound gs

module _ {R : Type 0} (le : R → R → Bool) (l : Linear le) (d : R) (ends : (x : R) → le x d ≡ true) (n : ℕ) (two : 2 ≤ n) where
  -- ---- the earlier and the later of two
  pub earlier_left : (a b : R) → le (earlier le a b) a ≡ true
  earlier_left a b = elim (le a b) as (λ t. le a b ≡ t → le (cond t a b) a ≡ true) [ true ↦ λ _. le_refl le l a | false ↦ λ f. other_way le l a b f ] refl

  pub earlier_right : (a b : R) → le (earlier le a b) b ≡ true
  earlier_right a b = elim (le a b) as (λ t. le a b ≡ t → le (cond t a b) b ≡ true) [ true ↦ λ t. t | false ↦ λ _. le_refl le l b ] refl

  pub to_earlier : (x a b : R) → le x a ≡ true → le x b ≡ true → le x (earlier le a b) ≡ true
  to_earlier x a b p q = elim (le a b) as (λ t. le x (cond t a b) ≡ true) [ true ↦ p | false ↦ q ]

  pub earlier_later : (a b : R) → le (earlier le a b) (later le a b) ≡ true
  earlier_later a b = elim (le a b) as (λ t. le a b ≡ t → le (cond t a b) (cond t b a) ≡ true) [ true ↦ λ t. t | false ↦ λ f. other_way le l a b f ] refl

  -- where the later is blank, either being blank makes what holds of both
  pub blank_later : (a b : R) (P : Type 0) → (le d a ≡ true → P) → (le d b ≡ true → P) → le d (later le a b) ≡ true → P
  blank_later a b P f g = elim (le a b) as (λ t. le d (cond t b a) ≡ true → P) [ true ↦ g | false ↦ f ]

  -- ---- a group that is made of s and two newcomers
  made_sized : (p q : R) (s : List R) → length s ≡ n - 2 → length (insert le p (insert le q s)) ≡ n
  made_sized p q s e = let a = length_insert le p (insert le q s) in let b = length_insert le q s in omega arith

  -- v stands no later than the first of it
  made_first : (v p q : R) (s : List R) → length s ≡ n - 2 → le v p ≡ true → le v q ≡ true → All (λ y. le v y ≡ true) s → le v (a_of d (insert le p (insert le q s))) ≡ true
  made_first v p q s e vp vq vs =
      let P : R → Type 0 = λ y. le v y ≡ true in
      let k = made_sized p q s e in
      All-get_or P (insert le p (insert le q s)) 0 d (omega arith) (all_insert le P p (insert le q s) vp (all_insert le P q s vq vs))

  -- all but its last stand no later than what v stands before
  made_front : (v w p q : R) (s : List R) → length s ≡ n - 2 → le v w ≡ true → le q v ≡ true → All (λ y. le y v ≡ true) s → All (λ y. le y w ≡ true) (take (n - 1) (insert le p (insert le q s)))
  made_front v w p q s e vw qv sv =
      let P : R → Type 0 = λ y. le y w ≡ true in
      let b = length_insert le q s in
      let k : length (insert le q s) ≡ n - 1 = omega arith in
      let far = all_insert le P q s (l.trans q v w qv vw) (All-weaker (λ y. le y v ≡ true) P (λ y t. l.trans y v w t vw) s sv) in
      subst (λ i. All P (take i (insert le p (insert le q s)))) k (front_insert le l w p (insert le q s) far)

  -- where its last is blank, v is
  made_last : (v p q : R) (s : List R) → length s ≡ n - 2 → le q v ≡ true → All (λ y. le y v ≡ true) s → (le d p ≡ true → le d v ≡ true) → le d (z_of d n (insert le p (insert le q s))) ≡ true → le d v ≡ true
  made_last v p q s e qv sv f z =
      let k = made_sized p q s e in
      let w = later le p v in
      let P : R → Type 0 = λ y. le y w ≡ true in
      let vw : le v w ≡ true = elim (le p v) as (λ t. le p v ≡ t → le v (cond t v p) ≡ true) [ true ↦ λ _. le_refl le l v | false ↦ λ u. other_way le l p v u ] refl in
      let pw : le p w ≡ true = elim (le p v) as (λ t. le p v ≡ t → le p (cond t v p) ≡ true) [ true ↦ λ t. t | false ↦ λ _. le_refl le l p ] refl in
      let far = all_insert le P p (insert le q s) pw (all_insert le P q s (l.trans q v w qv vw) (All-weaker (λ y. le y v ≡ true) P (λ y t. l.trans y v w t vw) s sv)) in
      let zw = All-get_or P (insert le p (insert le q s)) (n - 1) d (omega arith) far in
      blank_later p v (le d v ≡ true) f (λ t. t) (l.trans d _ w z zw)

  -- v stands between the new groups that are made of g and h
  made_joined : (v p q p' q' : R) (g h : List R) → length g ≡ n → length h ≡ n → le q v ≡ true → All (λ y. le y v ≡ true) (s_of n g) → (le d p ≡ true → le d v ≡ true) → le v p' ≡ true → le v q' ≡ true → All (λ y. le v y ≡ true) (s_of n h)
      → Joined le d n (insert le p (insert le q (s_of n g))) (insert le p' (insert le q' (s_of n h)) ∷ [])
  made_joined v p q p' q' g h e e' qv sv f vp vq vt =
      let s = s_of n g in
      let es = length_s d n two g e in
      let far = made_first v p' q' (s_of n h) (length_s d n two h e') vp vq vt in
      (made_front v _ p q s es far qv sv, λ z. l.trans d v _ (made_last v p q s es qv sv f z) far)

  -- ---- how a group stands to the next
  pub below : (g h : List R) (hs : List (List R)) → length g ≡ n → Joined le d n g (h ∷ hs) → (le (a_of d g) (a_of d h) ≡ true) × All (λ y. le y (a_of d h) ≡ true) (s_of n g)
  below g h hs e j = subst (All (λ y. le y (a_of d h) ≡ true)) (sym (a_s d n two g e)) j.0

  pub a_next : (g : List R) (gs : List (List R)) → length g ≡ n → Joined le d n g gs → le (a_of d g) (next_a d gs) ≡ true
  a_next g [] e j = ends (a_of d g)
  a_next g (h ∷ hs) e j = (below g h hs e j).0

  -- all of g but its Z stand no later than the earlier of that and A of the next
  low_above : (g h : List R) (hs : List (List R)) → length g ≡ n → Ascending le g → Joined le d n g (h ∷ hs) → (le (a_of d g) (earlier le (z_of d n g) (a_of d h)) ≡ true) × All (λ y. le y (earlier le (z_of d n g) (a_of d h)) ≡ true) (s_of n g)
  low_above g h hs e a j =
      let b = below g h hs e j in
      let Z = z_of d n g in
      let B = a_of d h in (
        to_earlier _ Z B (stands_a d n two le g e a).1 b.0,
        all_both (λ y. le y Z ≡ true) (λ y. le y B ≡ true) (λ y. le y (earlier le Z B) ≡ true) (λ y p q. to_earlier y Z B p q) (s_of n g) (stands_z d n two le g e a).1 b.1,
      )

  -- what stands no later than A stands no later than S
  to_s : (v : R) (h : List R) → length h ≡ n → Ascending le h → le v (a_of d h) ≡ true → All (λ y. le v y ≡ true) (s_of n h)
  to_s v h e a t = All-weaker (λ y. le (a_of d h) y ≡ true) (λ y. le v y ≡ true) (λ y p. l.trans v (a_of d h) y t p) (s_of n h) (stands_a d n two le h e a).0

  -- ---- the steps
  made_sound : (new : List R) (p q : R) (g : List R) (gs : List (List R)) → length g ≡ n → Ascending le g → new ≡ insert le p (insert le q (s_of n g)) → Joined le d n (insert le p (insert le q (s_of n g))) gs → Sound le d n gs → Sound le d n (new ∷ gs)
  made_sound new p q g gs e a k j s =
      subst (λ w. Sound le d n (w ∷ gs)) (sym k)
      (made_sized p q (s_of n g) (length_s d n two g e), ascending_insert le l p (insert le q (s_of n g)) (ascending_insert le l q (s_of n g) (stands_z d n two le g e a).0), j, s)

  -- a put, where z is blank only before a blank
  pub put_sound : (z : R) (gs : List (List R)) → (le d z ≡ true → le d (next_a d gs) ≡ true) → Sound le d n gs → Sound le d n (put_groups le d n z gs)
  put_sound z [] f s = tt
  put_sound z (g ∷ []) f (e, a, j, s) = made_sound _ z (a_of d g) g [] e a (put_group d n two le l z g e a) tt tt
  put_sound z (g ∷ h ∷ hs) f (e, a, j, (e', a', j', s)) =
      let Z = z_of d n g in
      let v = earlier le Z (a_of d h) in
      let low = low_above g h hs e a j in
      let vA = earlier_right Z (a_of d h) in
      let join = made_joined v z (a_of d g) Z (a_of d h) g h e e' low.0 low.1 (λ t. l.trans d (a_of d g) v (f t) low.0) (earlier_left Z (a_of d h)) vA (to_s v h e' a' vA) in
      made_sound _ z (a_of d g) g (put_groups le d n Z (h ∷ hs)) e a (put_group d n two le l z g e a) (rw (put_group d n two le l Z h e' a') join) (put_sound Z (h ∷ hs) j.1 (e', a', j', s))

  pub take_sound : (gs : List (List R)) → Sound le d n gs → Sound le d n (take_groups le d n gs)
  take_sound [] s = tt
  take_sound (g ∷ []) (e, a, j, s) = made_sound _ (z_of d n g) d g [] e a (take_group d n two le l d g e a) tt tt
  take_sound (g ∷ h ∷ hs) (e, a, j, (e', a', j', s)) =
      let Z = z_of d n g in
      let v = a_of d h in
      let same = le_refl le l v in
      let join = made_joined v Z v (z_of d n h) (next_a d hs) g h e e' same (below g h hs e j).1 j.1 (stands_a d n two le h e' a').1 (a_next h hs e' j') (to_s v h e' a' same) in
      made_sound _ Z v g (take_groups le d n (h ∷ hs)) e a (take_group d n two le l v g e a) (rw (take_group d n two le l (next_a d hs) h e' a') join) (take_sound (h ∷ hs) (e', a', j', s))

  -- an exchange, where a is blank only before a blank
  pub exchange_sound : (a : R) (gs : List (List R)) → (le d a ≡ true → le d (next_a d gs) ≡ true) → Sound le d n gs → Sound le d n (exchange_groups le d n a gs)
  exchange_sound x [] f s = tt
  exchange_sound x (g ∷ []) f (e, a, j, s) = made_sound _ x (earlier le (z_of d n g) d) g [] e a (exchange_group d n two le l x (earlier le (z_of d n g) d) g e a) tt tt
  exchange_sound x (g ∷ h ∷ hs) f (e, a, j, (e', a', j', s)) =
      let Z = z_of d n g in
      let B = a_of d h in
      let v = earlier le Z B in
      let low = low_above g h hs e a j in
      let vB = earlier_right Z B in
      let onward : (w : R) → le B w ≡ true → le v w ≡ true = λ w t. l.trans v B w vB t in
      let low' = earlier le (z_of d n h) (next_a d hs) in
      let vlow : le v low' ≡ true = to_earlier v (z_of d n h) (next_a d hs) (onward (z_of d n h) (stands_a d n two le h e' a').1) (onward (next_a d hs) (a_next h hs e' j')) in
      let join = made_joined v x v (later le Z B) low' g h e e' (le_refl le l v) low.1 (λ t. l.trans d (a_of d g) v (f t) low.0) (earlier_later Z B) vlow (to_s v h e' a' vB) in
      made_sound _ x v g (exchange_groups le d n (later le Z B) (h ∷ hs)) e a (exchange_group d n two le l x v g e a) (rw (exchange_group d n two le l (later le Z B) low' h e' a') join)
      (exchange_sound (later le Z B) (h ∷ hs) (blank_later Z B (le d B ≡ true) j.1 (λ t. t)) (e', a', j', s))
