-- A turn of a step's loop: group i is as it will be, and the rest as it was.
use Rattle.std.proofs.Common.{◌≡◌, ℕ, ◌+◌, ◌-◌, ◌*◌, ◌<◌, ◌≤◌, Bool, List, [], ◌++◌, length, get_or, take, drop, sym, ap, ◌∙◌, subst, arith}
use borrow.Rule.Slice.PartMut.{put_mid}
use Rattle.std.proofs.lemmas.List.{append_assoc, append-nil, drop-drop, drop-take, drop_at, drop_all, take-take, take_all, length-drop, length-take-le}
use Rattle.std.proofs.lemmas.Slice.{take-put_mid, take-put_mid_below, drop-put_mid}
use Rattle.records.specs.Linear.{Linear}
use Rattle.records.specs.Sorting.{insert, Ascending, earlier, later}
use Rattle.records.proofs.Sorting.{length_insert}
use Rattle.standing.specs.Facts.{Ascends}
use Rattle.standing.specs.Steps.{groups_of, flat, z_of, s_of, next_a, put_groups, take_groups, exchange_groups}
use Rattle.standing.proofs.Parts.{put_one, take_one, exchange_group, length_s}
use Rattle.standing.proofs.Rows.{row_end, row_next, row_size, row, rows, rows_more, length_row, row_at, row_ascends}

module _ {R : Type 0} (m n i : ℕ) (E cells : List R) (sizes : length cells ≡ m * n) (h : i < m) (rest : drop (i * n) cells ≡ drop (i * n) E) where
  -- group i is still as it was, and so is what follows it
  pub part_is : take ((i + 1) * n - i * n) (drop (i * n) cells) ≡ row n i E
  part_is = ap (λ v. take v (drop (i * n) cells)) (row_size i n) ∙ ap (take n) rest

  pub rest_is : drop ((i + 1) * n) cells ≡ drop ((i + 1) * n) E
  rest_is = ap (λ v. drop v cells) (row_next i n) ∙ sym (drop-drop n (i * n) cells) ∙ ap (drop n) rest ∙ drop-drop n (i * n) E ∙ ap (λ v. drop v E) (sym (row_next i n))

  -- group i becomes g
  pub turn : (g now' more all : List R) → length g ≡ n → now' ≡ g ++ more → take (i * n) cells ++ now' ≡ all
      → (take ((i + 1) * n) (put_mid (i * n) ((i + 1) * n - i * n) cells g) ++ more ≡ all) × (drop ((i + 1) * n) (put_mid (i * n) ((i + 1) * n - i * n) cells g) ≡ drop ((i + 1) * n) E)
  turn g now' more all lg e inv =
      let r = row_end i m n h in
      let next = row_next i n in
      let k = (i + 1) * n - i * n in
      let q : (i + 1) * n ≡ i * n + length g = omega arith in
      let w : i * n ≤ length cells = omega arith in
      let v : i * n + k ≤ (i + 1) * n = omega arith in
      let lk : length g ≡ k = omega arith in
      let p = take-put_mid (i * n) k cells g ((i + 1) * n) q w in
      let s : (take (i * n) cells ++ g) ++ more ≡ take (i * n) cells ++ (g ++ more) = append_assoc (take (i * n) cells) g more in
      (ap (λ v. v ++ more) p ∙ s ∙ ap (λ v. take (i * n) cells ++ v) (sym e) ∙ inv, drop-put_mid (i * n) k cells g ((i + 1) * n) v w lk ∙ rest_is)

-- group i, while the loop that goes back has not come to it
pub back_row : {R : Type 0} (m n i : ℕ) (E cells : List R) → take ((i + 1) * n) cells ≡ take ((i + 1) * n) E → take ((i + 1) * n - i * n) (drop (i * n) cells) ≡ row n i E
back_row m n i E cells before =
    let next = row_next i n in
    ap (λ v. take v (drop (i * n) cells)) (row_size i n)
    ∙ sym (drop-take (i * n) n cells)
    ∙ ap (drop (i * n)) (ap (λ v. take v cells) (sym next) ∙ before ∙ ap (λ v. take v E) next)
    ∙ drop-take (i * n) n E

-- the part that is lent is group i, which ascends
pub part_ready : {R : Type 0} (le : R → R → Bool) (d : R) (m n i : ℕ) (E cells : List R) → length E ≡ m * n → Ascends le d m n E → length cells ≡ length E → i < m → drop (i * n) cells ≡ drop (i * n) E
    → (length (take ((i + 1) * n - i * n) (drop (i * n) cells)) ≡ n) × Ascending le (take ((i + 1) * n - i * n) (drop (i * n) cells))
part_ready le d m n i E cells f a k h rest =
    let p = part_is m n i E cells (k ∙ f) h rest in
    (ap length p ∙ length_row m n i E f h, subst (Ascending le) (sym p) (row_ascends le d m n i E f a h))

module _ {R : Type 0} (le : R → R → Bool) (l : Linear le) (d : R) (m n i : ℕ) (two : 2 ≤ n) (E : List R) (sizes : length E ≡ m * n) (h : i < m) (asc : Ascending le (row n i E)) where
  -- what is left to do from group i on, one group at a time
  pub put_more : (z : R) → flat (put_groups le d n z (rows m n i E)) ≡ insert le z (take (n - 1) (row n i E)) ++ flat (put_groups le d n (z_of d n (row n i E)) (rows m n (i + 1) E))
  put_more z =
      ap (λ v. flat (put_groups le d n z v)) (rows_more m n i E h)
      ∙ ap (λ v. v ++ flat (put_groups le d n (z_of d n (row n i E)) (rows m n (i + 1) E))) (put_one d n two le l z (row n i E) (length_row m n i E sizes h) asc)

  pub take_more_row : flat (take_groups le d n (rows m n i E)) ≡ insert le (next_a d (rows m n (i + 1) E)) (drop 1 (row n i E)) ++ flat (take_groups le d n (rows m n (i + 1) E))
  take_more_row =
      ap (λ v. flat (take_groups le d n v)) (rows_more m n i E h)
      ∙ ap (λ v. v ++ flat (take_groups le d n (rows m n (i + 1) E))) (take_one d n two le l (next_a d (rows m n (i + 1) E)) (row n i E) (length_row m n i E sizes h) asc)

  pub exchange_more : (a : R) → flat (exchange_groups le d n a (rows m n i E)) ≡ insert le a (insert le (earlier le (z_of d n (row n i E)) (next_a d (rows m n (i + 1) E))) (s_of n (row n i E))) ++ flat (exchange_groups le d n (later le (z_of d n (row n i E)) (next_a d (rows m n (i + 1) E))) (rows m n (i + 1) E))
  exchange_more a =
      ap (λ v. flat (exchange_groups le d n a v)) (rows_more m n i E h)
      ∙ ap (λ v. v ++ flat (exchange_groups le d n (later le (z_of d n (row n i E)) (next_a d (rows m n (i + 1) E))) (rows m n (i + 1) E))) (exchange_group d n two le l a (earlier le (z_of d n (row n i E)) (next_a d (rows m n (i + 1) E))) (row n i E) (length_row m n i E sizes h) asc)

  module _ (cells part g all : List R) (lc : length cells ≡ m * n) (rest : drop (i * n) cells ≡ drop (i * n) E) (is : part ≡ take ((i + 1) * n - i * n) (drop (i * n) cells)) where
    part_row : part ≡ row n i E
    part_row = is ∙ part_is m n i E cells lc h rest

    part_length : length part ≡ n
    part_length = ap length part_row ∙ length_row m n i E sizes h

    pub put_turn : (z r : R) → g ≡ insert le z (take (length part - 1) part) → r ≡ get_or part (length part - 1) d
        → take (i * n) cells ++ flat (put_groups le d n z (rows m n i E)) ≡ all
        → (take ((i + 1) * n) (put_mid (i * n) ((i + 1) * n - i * n) cells g) ++ flat (put_groups le d n r (rows m n (i + 1) E)) ≡ all)
        × (drop ((i + 1) * n) (put_mid (i * n) ((i + 1) * n - i * n) cells g) ≡ drop ((i + 1) * n) E)
        × (r ≡ get_or E ((i + 1) * n - 1) d)
    put_turn z r eg er inv =
        let lp = part_length in
        let lr = length_row m n i E sizes h in
        let p = part_row in
        let q : length part - 1 ≡ n - 1 = omega arith in
        let g1 : g ≡ insert le z (take (n - 1) (row n i E)) = eg ∙ ap (λ v. insert le z (take v part)) q ∙ ap (λ v. insert le z (take (n - 1) v)) p in
        let r1 : r ≡ z_of d n (row n i E) = er ∙ ap (λ v. get_or part v d) q ∙ ap (λ v. get_or v (n - 1) d) p in
        let lt = length-take-le (n - 1) (row n i E) (omega arith) in
        let li = length_insert le z (take (n - 1) (row n i E)) in
        let lg : length g ≡ n = ap length g1 ∙ omega arith in
        let more = put_more z ∙ ap (λ v. v ++ flat (put_groups le d n (z_of d n (row n i E)) (rows m n (i + 1) E))) (sym g1) ∙ ap (λ v. g ++ flat (put_groups le d n v (rows m n (i + 1) E))) (sym r1) in
        let t = turn m n i E cells lc h rest g _ _ all lg more inv in
        let below : n - 1 < n = omega arith in
        let next = row_next i n in
        let place : i * n + (n - 1) ≡ (i + 1) * n - 1 = omega arith in
        (t.0, t.1, r1 ∙ row_at d n i (n - 1) E below ∙ ap (λ v. get_or E v d) place)

    pub exchange_turn : (a x y low high : R) → x ≡ next_a d (rows m n (i + 1) cells) → y ≡ get_or part (n - 1) d → low ≡ earlier le y x → high ≡ later le y x → g ≡ insert le a (insert le low (s_of (length part) part))
        → take (i * n) cells ++ flat (exchange_groups le d n a (rows m n i E)) ≡ all
        → (take ((i + 1) * n) (put_mid (i * n) ((i + 1) * n - i * n) cells g) ++ flat (exchange_groups le d n high (rows m n (i + 1) E)) ≡ all)
        × (drop ((i + 1) * n) (put_mid (i * n) ((i + 1) * n - i * n) cells g) ≡ drop ((i + 1) * n) E)
    exchange_turn a x y low high ex ey el eh eg inv =
        let B = next_a d (rows m n (i + 1) E) in
        let Z = z_of d n (row n i E) in
        let lr = length_row m n i E sizes h in
        let x1 : x ≡ next_a d (rows m n (i + 1) E) = ex ∙ ap (λ v. next_a d (groups_of (m - (i + 1)) n v)) (rest_is m n i E cells lc h rest) in
        let y1 : y ≡ z_of d n (row n i E) = ey ∙ ap (λ v. get_or v (n - 1) d) part_row in
        let low1 : low ≡ earlier le Z B = el ∙ ap (λ v. earlier le v x) y1 ∙ ap (earlier le Z) x1 in
        let high1 : high ≡ later le Z B = eh ∙ ap (λ v. later le v x) y1 ∙ ap (later le Z) x1 in
        let g1 : g ≡ insert le a (insert le (earlier le Z B) (s_of n (row n i E))) = eg ∙ ap (λ v. insert le a (insert le low (s_of v part))) part_length ∙ ap (λ v. insert le a (insert le low (s_of n v))) part_row ∙ ap (λ v. insert le a (insert le v (s_of n (row n i E)))) low1 in
        let ls = length_s d n two (row n i E) lr in
        let li = length_insert le (earlier le Z B) (s_of n (row n i E)) in
        let lj = length_insert le a (insert le (earlier le Z B) (s_of n (row n i E))) in
        let lg : length g ≡ n = ap length g1 ∙ omega arith in
        let more = exchange_more a ∙ ap (λ v. v ++ flat (exchange_groups le d n (later le Z B) (rows m n (i + 1) E))) (sym g1) ∙ ap (λ v. g ++ flat (exchange_groups le d n v (rows m n (i + 1) E))) (sym high1) in
        turn m n i E cells lc h rest g _ _ all lg more inv

  -- a turn of the loop that goes from the last group to the first: what follows group i is as it will be, and group i and those before it as they were
  pub take_turn : (cells part g : List R) (x r : R) → length cells ≡ m * n → take ((i + 1) * n) cells ≡ take ((i + 1) * n) E → drop ((i + 1) * n) cells ≡ flat (take_groups le d n (rows m n (i + 1) E))
      → part ≡ take ((i + 1) * n - i * n) (drop (i * n) cells) → x ≡ next_a d (rows m n (i + 1) E) → g ≡ insert le x (drop 1 part) → r ≡ get_or part 0 d
      → (take (i * n) (put_mid (i * n) ((i + 1) * n - i * n) cells g) ≡ take (i * n) E)
      × (drop (i * n) (put_mid (i * n) ((i + 1) * n - i * n) cells g) ≡ flat (take_groups le d n (rows m n i E)))
      × (r ≡ next_a d (rows m n i E))
  take_turn cells part g x r lc before after is ex eg er =
      let next = row_next i n in
      let end = row_end i m n h in
      let k = (i + 1) * n - i * n in
      let less : i * n ≤ (i + 1) * n = omega arith in
      let q : i * n + k ≡ (i + 1) * n = omega arith in
      let p = is ∙ back_row m n i E cells before in
      let more = take_more_row in
      let g1 : g ≡ insert le (next_a d (rows m n (i + 1) E)) (drop 1 (row n i E)) = eg ∙ ap (λ v. insert le v (drop 1 part)) ex ∙ ap (λ v. insert le (next_a d (rows m n (i + 1) E)) (drop 1 v)) p in
      let lt = length-take-le (i * n) cells (omega arith) in (
        take-put_mid_below (i * n) k cells g (i * n) (omega arith) (omega arith) ∙ sym (take-take (i * n) ((i + 1) * n) cells less) ∙ ap (take (i * n)) before ∙ take-take (i * n) ((i + 1) * n) E less,
        drop_at (take (i * n) cells) (g ++ drop k (drop (i * n) cells)) (i * n) lt ∙ ap (λ v. g ++ v) (drop-drop k (i * n) cells ∙ ap (λ v. drop v cells) q ∙ after) ∙ ap (λ v. v ++ flat (take_groups le d n (rows m n (i + 1) E))) g1 ∙ sym more,
        er ∙ ap (λ v. get_or v 0 d) p ∙ sym (ap (next_a d) (rows_more m n i E h)),
      )

-- the part after the first cell, once its last has made way for z
pub refit_rest : {R : Type 0} (le : R → R → Bool) (z : R) (E g : List R) → 2 ≤ length E → g ≡ insert le z (take (length (take (length E - 1) (drop 1 E)) - 1) (take (length E - 1) (drop 1 E))) → drop 1 (put_mid 1 (length E - 1) E g) ≡ insert le z (s_of (length E) E)
refit_rest le z E g two eg =
    let G = take (length E - 1) (drop 1 E) in
    let l1 = length-take-le 1 E (omega arith) in
    let ld = length-drop 1 E in
    let a : drop 1 (put_mid 1 (length E - 1) E g) ≡ g ++ drop (length E - 1) (drop 1 E) = drop_at (take 1 E) (g ++ drop (length E - 1) (drop 1 E)) 1 l1 in
    let none = drop_all (length E - 1) (drop 1 E) (omega arith) in
    let whole : G ≡ drop 1 E = take_all (length E - 1) (drop 1 E) (omega arith) in
    let q : length (drop 1 E) - 1 ≡ length E - 2 = omega arith in
    a ∙ ap (λ v. g ++ v) none ∙ append-nil g ∙ eg ∙ ap (λ v. insert le z (take (length v - 1) v)) whole ∙ ap (λ v. insert le z (take v (drop 1 E))) q
