-- Cells and their groups: the cells of group i, and what is left from it on.
use Rattle.std.proofs.Common.{◌≡◌, ℕ, zero, suc, ◌+◌, ◌-◌, ◌*◌, ◌<◌, ◌≤◌, Bool, true, List, ◌∷◌, ◌++◌, length, get_or, take, drop, sym, ap, ◌∙◌, subst, ⊎_elim, mul-le-mul_right, suc-mul, add-mul, one-mul, zero-mul, arith}
use Rattle.std.proofs.lemmas.Bool.{cases_lt}
use Rattle.std.proofs.lemmas.List.{drop-drop, get_or-take, get_or-drop, get_or_past, length-take-le, length-drop, take-append-drop, nil_from_length}
use Rattle.records.specs.Sorting.{Ascending}
use Rattle.standing.specs.Facts.{cell, Ascends}
use Rattle.standing.specs.Steps.{groups_of, flat, next_a}
use Rattle.standing.proofs.Lists.{ascending_from}

pub row_end : (i m n : ℕ) → i < m → i * n + n ≤ m * n
row_end i m n h = let s : suc i ≤ m = omega arith in let a = mul-le-mul_right n s in omega (arith, a, suc-mul i n)

pub row_next : (i n : ℕ) → (i + 1) * n ≡ i * n + n
row_next i n = add-mul i 1 n ∙ ap (λ v. i * n + v) (one-mul n)

pub row_size : (i n : ℕ) → (i + 1) * n - i * n ≡ n
row_size i n = let k = row_next i n in omega arith

-- the cells of group i
abbrev pub row : {R : Type 0} → ℕ → ℕ → List R → List R
row n i E = take n (drop (i * n) E)

-- the groups from group i on
abbrev pub rows : {R : Type 0} → ℕ → ℕ → ℕ → List R → List (List R)
rows m n i E = groups_of (m - i) n (drop (i * n) E)

pub rows_more : {R : Type 0} (m n i : ℕ) (E : List R) → i < m → rows m n i E ≡ row n i E ∷ rows m n (i + 1) E
rows_more m n i E h =
    let q : m - i ≡ suc (m - (i + 1)) = omega arith in
    ap (λ v. groups_of v n (drop (i * n) E)) q
    ∙ ap (λ v. row n i E ∷ groups_of (m - (i + 1)) n v) (drop-drop n (i * n) E ∙ ap (λ v. drop v E) (sym (row_next i n)))

pub length_row : {R : Type 0} (m n i : ℕ) (E : List R) → length E ≡ m * n → i < m → length (row n i E) ≡ n
length_row m n i E e h =
    let r = row_end i m n h in
    let q : n ≤ length (drop (i * n) E) = rw length-drop (omega arith) in
    length-take-le n (drop (i * n) E) q

-- a cell by its place in its group
pub row_at : {R : Type 0} (d : R) (n i k : ℕ) (E : List R) → k < n → get_or (row n i E) k d ≡ cell d n E i k
row_at d n i k E h = get_or-take n (drop (i * n) E) k d h ∙ get_or-drop (i * n) E k d

pub row_ascends : {R : Type 0} (le : R → R → Bool) (d : R) (m n i : ℕ) (E : List R) → length E ≡ m * n → Ascends le d m n E → i < m → Ascending le (row n i E)
row_ascends le d m n i E e f h =
    let s = length_row m n i E e h in
    ascending_from le d (row n i E) (λ k l p q.
    let lt : l < n = omega arith in
    let kt : k < n = omega arith in
    subst (λ v. le v (get_or (row n i E) l d) ≡ true) (sym (row_at d n i k E kt)) (subst (λ v. le (cell d n E i k) v ≡ true) (sym (row_at d n i l E lt)) (f i k l h p lt)))

-- A of group i, and blank past the last group
pub next_is : {R : Type 0} (d : R) (m n i : ℕ) (E : List R) → length E ≡ m * n → i ≤ m → 2 ≤ n → next_a d (rows m n i E) ≡ get_or E (i * n) d
next_is d m n i E e h two =
    ⊎_elim
    (λ (more : i < m).
    let p : 0 < n = omega arith in
    let z : i * n + 0 ≡ i * n = omega arith in
    ap (next_a d) (rows_more m n i E more) ∙ row_at d n i 0 E p ∙ ap (λ v. get_or E v d) z)
    (λ (past : m ≤ i).
    let z : m - i ≡ 0 = omega arith in
    let q : m ≡ i = omega arith in
    let l : length E ≡ i * n = e ∙ ap (λ v. v * n) q in
    ap (λ v. next_a d (groups_of v n (drop (i * n) E))) z ∙ sym (get_or_past E (i * n) d (omega arith)))
    (cases_lt i m)

-- groups and cells
pub flat_groups : {R : Type 0} (m n : ℕ) (cells : List R) → length cells ≡ m * n → flat (groups_of m n cells) ≡ cells
flat_groups zero n cells e = sym (nil_from_length cells (e ∙ zero-mul n))
flat_groups (suc m) n cells e =
    let s = suc-mul m n in
    let k = length-drop n cells in
    ap (λ v. take n cells ++ v) (flat_groups m n (drop n cells) (omega arith)) ∙ take-append-drop n cells
