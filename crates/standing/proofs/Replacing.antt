-- How a newcomer is set among ascending cells, cell by cell.
use Rattle.std.proofs.Common.{◌≡◌, ℕ, zero, suc, ◌+◌, ◌-◌, ◌<◌, ◌≤◌, Bool, true, false, List, [], ◌∷◌, ◌++◌, length, get_or, take, drop, set, sym, refl, ap, ◌∙◌, subst, ⊎_elim, arith}
use Rattle.std.specs.List.{AllByRecursion as All}
use Rattle.std.proofs.lemmas.Bool.{cases_Bool, cond-true}
use Rattle.std.proofs.lemmas.List.{take-append-drop, take_more, take_more_set, take-take, take-set-le, drop-drop, drop_all, drop_more, drop-set, drop-set-lt, set_split, get_or-drop, get_or-take, length-drop, length-take-le}
use Rattle.std.proofs.ByRecursion.{All-get_or, All-more, All-weaker}
use Rattle.records.specs.Linear.{Linear}
use Rattle.records.specs.Sorting.{insert, Ascending}
use Rattle.records.proofs.Sorting.{insert_first, insert_past, above, other_way}

-- lists that go on alike have the same element there
pub same_at : {R : Type 0} (E cells : List R) (k : ℕ) (d : R) → drop k cells ≡ drop k E → get_or cells k d ≡ get_or E k d
same_at E cells k d h =
    let a : get_or (drop k cells) 0 d ≡ get_or cells (k + 0) d = get_or-drop k cells 0 d in
    let b : get_or (drop k E) 0 d ≡ get_or E (k + 0) d = get_or-drop k E 0 d in
    let z : k + 0 ≡ k = omega arith in
    cc

module _ {R : Type 0} (le : R → R → Bool) where
  -- x goes behind those that it stands after
  pub insert_behind : (x : R) (a b : List R) → All (λ y. le x y ≡ false) a → insert le x b ≡ x ∷ b → insert le x (a ++ b) ≡ a ++ (x ∷ b)
  insert_behind x [] b f h = h
  insert_behind x (y ∷ ys) b f h = insert_past le x y (ys ++ b) f.0 ∙ ap (λ v. y ∷ v) (insert_behind x ys b f.1 h)

  -- x comes first where it stands no later than the first of the rest
  pub leads_some : (x y : R) (D : List R) (k : ℕ) → k < length D → y ≡ get_or D k y → le x y ≡ true → insert le x (drop k D) ≡ x ∷ drop k D
  leads_some x y D k h e t =
      let u : le x (get_or D k y) ≡ true = subst (λ v. le x v ≡ true) e t in
      subst (λ v. insert le x v ≡ x ∷ v) (sym (drop_more D k y h)) (cond-true (le x (get_or D k y)) _ _ u)

  pub leads_none : (x : R) (D : List R) (k : ℕ) → length D ≤ k → insert le x (drop k D) ≡ x ∷ drop k D
  leads_none x D k h = subst (λ v. insert le x v ≡ x ∷ v) (sym (drop_all k D h)) refl

  module _ (l : Linear le) where
    -- x goes between those that stand no later and those that stand no earlier
    pub insert_between : (x : R) (a b : List R) → Ascending le (a ++ b) → All (λ y. le y x ≡ true) a → All (λ y. le x y ≡ true) b → insert le x (a ++ b) ≡ a ++ (x ∷ b)
    insert_between x [] b s f h = insert_first le x b h
    insert_between x (y ∷ ys) b s f h =
        let more = insert_between x ys b s.1 f.1 h in
        ⊎_elim
        (λ (t : le x y ≡ true).
        let e : x ≡ y = l.antisym x y t f.0 in
        let first = insert_first le x (ys ++ b) (above le l x y (ys ++ b) t s.0) in
        let now-first = cond-true (le x y) (x ∷ y ∷ (ys ++ b)) (y ∷ insert le x (ys ++ b)) t in
        cc)
        (λ (n : le x y ≡ false). insert_past le x y (ys ++ b) n ∙ ap (λ v. y ∷ v) more)
        (cases_Bool (le x y))

    -- in ascending cells those before a place stand no later than it
    pub front_no_later : (T : List R) (k : ℕ) (d : R) → Ascending le T → k < length T → All (λ z. le z (get_or T k d) ≡ true) (take k T)
    front_no_later [] k d a h = absurd (omega arith)
    front_no_later (t ∷ ts) zero d a h = tt
    front_no_later (t ∷ ts) (suc k) d a h = (All-get_or (λ y. le t y ≡ true) ts k d (omega arith) a.0, front_no_later ts k d a.1 (omega arith))

    -- and so no later than what that place stands no later than
    pub up_to : (T : List R) (k : ℕ) (x y : R) → Ascending le T → k < length T → y ≡ get_or T k y → le y x ≡ true → All (λ z. le z x ≡ true) (take (k + 1) T)
    up_to T k x y a h e t =
        let u : le (get_or T k y) x ≡ true = subst (λ v. le v x ≡ true) e t in
        All-more (λ z. le z x ≡ true) T k y h (All-weaker (λ z. le z (get_or T k y) ≡ true) (λ z. le z x ≡ true) (λ z p. l.trans z (get_or T k y) x p u) (take k T) (front_no_later T k y a h)) u

-- the cell after place k, while the loop that goes up has not come to it
pub next_at : {R : Type 0} (E cells : List R) (k : ℕ) (d : R) → drop (k + 1) cells ≡ drop (k + 1) E → get_or cells (k + 1) d ≡ get_or (drop 1 E) k d
next_at E cells k d h = let q : k + 1 ≡ 1 + k = omega arith in same_at E cells (k + 1) d h ∙ ap (λ v. get_or E v d) q ∙ sym (get_or-drop 1 E k d)

-- one turn of the loop that goes up: the cell after place k moves to place k
pub up_turn : {R : Type 0} (E cells : List R) (k : ℕ) (y : R) → length cells ≡ length E → k + 1 < length E → take k cells ≡ take k (drop 1 E) → drop (k + 1) cells ≡ drop (k + 1) E → y ≡ get_or cells (k + 1) y → (take (k + 1) (set cells k y) ≡ take (k + 1) (drop 1 E)) × (drop (k + 1 + 1) (set cells k y) ≡ drop (k + 1 + 1) E)
up_turn E cells k y n h t d e =
    let ld = length-drop 1 E in
    let in_d : k < length (drop 1 E) = omega arith in
    let in_c : k < length cells = omega arith in
    let at : y ≡ get_or (drop 1 E) k y = e ∙ next_at E cells k y d in
    let a = take_more_set cells k y in_c in
    let b = take_more (drop 1 E) k y in_d in
    let lt : k < k + 1 + 1 = omega arith in
    let rest : drop (k + 1 + 1) (set cells k y) ≡ drop (k + 1 + 1) E = drop-set-lt (k + 1 + 1) cells k y lt ∙ (sym (drop-drop 1 (k + 1) cells) ∙ (ap (drop 1) d ∙ drop-drop 1 (k + 1) E)) in
    (a ∙ ap (λ v. v ++ (y ∷ [])) t ∙ ap (λ v. take k (drop 1 E) ++ (v ∷ [])) at ∙ sym b, rest)

pub up_end : {R : Type 0} (le : R → R → Bool) (E cells : List R) (k : ℕ) (x : R) → length cells ≡ length E → k < length E → take k cells ≡ take k (drop 1 E) → drop (k + 1) cells ≡ drop (k + 1) E → All (λ y. le x y ≡ false) (take k (drop 1 E)) → insert le x (drop k (drop 1 E)) ≡ x ∷ drop k (drop 1 E) → set cells k x ≡ insert le x (drop 1 E)
up_end le E cells k x n h t d f s =
    let q : 1 + k ≡ suc k = omega arith in
    let q2 : suc k ≡ k + 1 = omega arith in
    let rest : drop (suc k) cells ≡ drop k (drop 1 E) = ap (λ v. drop v cells) q2 ∙ d ∙ ap (λ v. drop v E) (sym q2 ∙ sym q) ∙ sym (drop-drop k 1 E) in
    let in_c : k < length cells = omega arith in
    set_split cells k x in_c
    ∙ ap (λ v. v ++ (x ∷ drop (suc k) cells)) t
    ∙ ap (λ v. take k (drop 1 E) ++ (x ∷ v)) rest
    ∙ sym (insert_behind le x (take k (drop 1 E)) (drop k (drop 1 E)) f s)
    ∙ ap (insert le x) (take-append-drop k (drop 1 E))

-- the loop that goes down: what has moved is the end of all cells but the last
abbrev pub front : {R : Type 0} → List R → List R
front E = take (length E - 1) E

pub down_start : {R : Type 0} (E : List R) → 0 < length E → (drop (length E - 1 + 1) E ≡ drop (length E - 1) (front E)) × (drop (length E - 1) (front E) ≡ [])
down_start E h =
    let lt = length-take-le (length E - 1) E (omega arith) in
    let none : drop (length E - 1) (front E) ≡ [] = drop_all (length E - 1) (front E) (omega arith) in
    (drop_all (length E - 1 + 1) E (omega arith) ∙ sym none, none)

-- the cell before place k, while the loop that goes down has not come to it
pub last_at : {R : Type 0} (E cells : List R) (k : ℕ) (d : R) → 0 < k → k < length E → take k cells ≡ take k E → get_or cells (k - 1) d ≡ get_or (front E) (k - 1) d
last_at E cells k d pos h t =
    let lt : k - 1 < k = omega arith in
    let below : k - 1 < length E - 1 = omega arith in
    sym (get_or-take k cells (k - 1) d lt) ∙ ap (λ v. get_or v (k - 1) d) t ∙ get_or-take k E (k - 1) d lt ∙ sym (get_or-take (length E - 1) E (k - 1) d below)

pub down_turn : {R : Type 0} (E cells : List R) (k : ℕ) (y : R) → length cells ≡ length E → 0 < k → k < length E → take k cells ≡ take k E → drop (k + 1) cells ≡ drop k (front E) → y ≡ get_or cells (k - 1) y → (take (k - 1) (set cells k y) ≡ take (k - 1) E) × (drop (k - 1 + 1) (set cells k y) ≡ drop (k - 1) (front E)) × (drop (k - 1) (front E) ≡ y ∷ drop k (front E))
down_turn E cells k y n pos h t d e =
    let less : k - 1 ≤ k = omega arith in
    let lT : length (front E) ≡ length E - 1 = length-take-le (length E - 1) E (omega arith) in
    let inT : k - 1 < length (front E) = omega arith in
    let q : k - 1 + 1 ≡ k = omega arith in
    let at : y ≡ get_or (front E) (k - 1) y = e ∙ last_at E cells k y pos h t in
    let parts : drop (k - 1) (front E) ≡ y ∷ drop k (front E) = drop_more (front E) (k - 1) y inT ∙ ap (λ v. v ∷ drop (k - 1 + 1) (front E)) (sym at) ∙ ap (λ v. y ∷ drop v (front E)) q in
    let in_c : k < length cells = omega arith in (
      take-set-le (k - 1) cells k y less ∙ sym (take-take (k - 1) k cells less) ∙ ap (take (k - 1)) t ∙ take-take (k - 1) k E less,
      ap (λ v. drop v (set cells k y)) q ∙ drop-set cells k y in_c ∙ ap (λ v. y ∷ v) d ∙ sym parts,
      parts,
    )

pub down_end : {R : Type 0} (le : R → R → Bool) (l : Linear le) (E cells : List R) (k : ℕ) (x : R) → length cells ≡ length E → k < length E → Ascending le (front E) → take k cells ≡ take k E → drop (k + 1) cells ≡ drop k (front E) → All (λ y. le y x ≡ false) (drop k (front E)) → All (λ y. le y x ≡ true) (take k (front E)) → set cells k x ≡ insert le x (front E)
down_end le l E cells k x n h a t d f s =
    let in_c : k < length cells = omega arith in
    let q : suc k ≡ k + 1 = omega arith in
    let less : k ≤ length E - 1 = omega arith in
    let back = take-append-drop k (front E) in
    set_split cells k x in_c
    ∙ ap (λ v. v ++ (x ∷ drop (suc k) cells)) (t ∙ sym (take-take k (length E - 1) E less))
    ∙ ap (λ v. take k (front E) ++ (x ∷ v)) (ap (λ v. drop v cells) q ∙ d)
    ∙ sym (insert_between le l x (take k (front E)) (drop k (front E)) (subst (Ascending le) (sym back) a) s (All-weaker (λ y. le y x ≡ false) (λ y. le x y ≡ true) (λ y p. other_way le l y x p) (drop k (front E)) f))
    ∙ ap (insert le x) back
