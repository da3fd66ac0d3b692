-- A cell beside a queue: what is done to the two is what a queue does to the collection of both.
use Rattle.std.specs.Prelude.{◌≡◌, ℕ, ◌+◌, Bool, true, false, cond, ◌⊎◌, List, [], ◌∷◌, length, Some, None, Ok, Err, Option, Result, IfSome, ◌≢◌, refl}
use Rattle.std.specs.Option.{is_some}
use Rattle.std.proofs.Common.{sym, ap, subst, ◌∙◌, ⊎_elim, inl, inr, arith}
use Rattle.std.proofs.Props.{props}
use Rattle.std.proofs.lemmas.Bool.{cases_Bool, cond-true, cond-false, cond_both, both_ways}
use Rattle.std.proofs.lemmas.Option.{none-some, cond_some}
use mathlib.Core.HLevel.{is_prop→PathP}
use Rattle.records.specs.Linear.{Linear}
use Rattle.records.specs.Sorting.{insert, Ascending, later_than, Filled, earlier, later}
use Rattle.records.proofs.Sorting.{length_insert, all_insert, later_insert, ascending_insert, insert_insert, insert_first, insert_past, le_refl, above}
use Rattle.records.specs.declared.record.Record.{Ghosts}
use Rattle.queues.specs.Queues.{Lawful, SameLimits, Puts, Takes, Exchanges}
use Rattle.sides.specs.Sides.{with_cell, leads, leader, side_held, side_room, side_slack, SidePuts, SideTakes, SideExchanges}
use Rattle.queues.specs.declared.queue.Put.{Put}
use Rattle.queues.specs.declared.queue.Put.TheVariants.{Kept, Displaced}
use Rattle.queues.specs.declared.fault.QueueFault.{QueueFault}
use Rattle.sides.specs.declared.SideCell.{SideCell}

module _ {R : Type 0} (le : R → R → Bool) (blank : R) (l : Linear le) where
  pub cell_lawful : (c : Option R) → IfSome c (Filled le blank) → (held : List R) (room slack : ℕ) → Lawful le blank held room slack → Lawful le blank (with_cell le c held) (room + 1) (slack + 1)
  cell_lawful None f held room slack w = record {
    ascends = w.ascends;
    filled = w.filled;
    within = let h = w.within in omega arith;
    roomy = omega arith;
    slackens = omega arith;
  }
  cell_lawful (Some c) f held room slack w = record {
    ascends = ascending_insert le l c held w.ascends;
    filled = all_insert le (Filled le blank) c held f w.filled;
    within = let h = w.within in let n = length_insert le c held in omega arith;
    roomy = omega arith;
    slackens = omega arith;
  }

  -- a record is not the blank
  not_blank : (c : R) → Filled le blank c → c ≢ blank
  not_blank c f e = both_ways (le blank c) f (subst (λ v. le blank v ≡ true) (sym e) (le_refl le l blank))

module _ {R : Type 0} (le : R → R → Bool) (l : Linear le) where
  -- of a pair, the earlier beside the later is the pair
  pair_beside : (c x : R) (ys : List R) → insert le (earlier le c x) (insert le (later le c x) ys) ≡ insert le x (insert le c ys)
  pair_beside c x ys =
      ⊎_elim
      (λ (t : le c x ≡ true). ap (λ v. insert le v (insert le (later le c x) ys)) (cond-true (le c x) c x t) ∙ ap (λ v. insert le c (insert le v ys)) (cond-true (le c x) x c t) ∙ insert_insert le l c x ys)
      (λ (f : le c x ≡ false). ap (λ v. insert le v (insert le (later le c x) ys)) (cond-false (le c x) c x f) ∙ ap (λ v. insert le x (insert le v ys)) (cond-false (le c x) x c f))
      (cases_Bool (le c x))

  -- the cell's record stands before all below
  leads_all : (c : R) (xs : List R) → Ascending le xs → leads le c xs ≡ true → insert le c xs ≡ c ∷ xs
  leads_all c [] a t = refl
  leads_all c (y ∷ ys) a t = insert_first le c (y ∷ ys) (t, above le l c y ys t a.0)

-- a cell is free, or has a record
cases_cell : {R : Type 0} (o : Option R) → (o ≡ None) ⊎ ((c : R) × (o ≡ Some c))
cases_cell None = inl refl
cases_cell (Some c) = inr (c, refl)

module _ {R : Type 0} (le : R → R → Bool) where
  -- the record of the cell counts as one more
  pub length_with_cell : (c : Option R) (xs : List R) → length (with_cell le c xs) ≡ length xs + cond (is_some c) 1 0
  length_with_cell None xs = omega arith
  length_with_cell (Some c) xs = length_insert le c xs

  -- a cell that leads holds the record
  leader_some : (o : Option R) (xs : List R) (c : R) → leader le o xs ≡ Some c → (o ≡ Some c) × (leads le c xs ≡ true)
  leader_some None xs c e = absurd (none-some c e)
  leader_some (Some d) xs c e = let k = cond_some (leads le d xs) d c e in (ap (λ v. Some v) k.1, subst (λ v. leads le v xs ≡ true) k.1 k.0)

  -- a cell that does not lead stands after the first below
  leader_none : (c : R) (xs : List R) → leader le (Some c) xs ≡ None → leads le c xs ≡ false
  leader_none c xs e = grind arith

-- that no blank is in a cell has one proof
one_filled : {R : Type 0} (le : R → R → Bool) (blank : R) (c : Option R) → IsProp (IfSome c (Filled le blank))
one_filled le blank c = hlevel props

module _ {R Q : Type 0} (kind : Ghosts R) (l : Linear kind.order) (ends : (x : R) → kind.order x kind.last ≡ true) (held : Q → List R) (room slack : Q → ℕ) (lawful : (q : Q) → Lawful kind.order kind.last (held q) (room q) (slack q)) where
  abbrev le : R → R → Bool
  le = kind.order

  abbrev blank : R
  blank = kind.last

  abbrev S : Type 0
  S = SideCell R Q kind

  abbrev side : S → List R
  side s = side_held le held s

  -- side cells with equal parts are equal
  same : (s s' : S) → s'.cell ≡ s.cell → s'.below ≡ s.below → s' ≡ s
  same s s' c b = λ i. record { cell = c i; below = b i; filled = is_prop→PathP (λ j. IfSome (c j) (Filled le blank)) (λ j. one_filled le blank (c j)) s'.filled s.filled i }

  -- what is held where the cell is free, and where it has a record
  free_cell : (s : S) → s.cell ≡ None → side s ≡ held s.below
  free_cell s e = ap (λ v. with_cell le v (held s.below)) e

  with_record : (s : S) (c : R) → s.cell ≡ Some c → side s ≡ insert le c (held s.below)
  with_record s c e = ap (λ v. with_cell le v (held s.below)) e

  in_cell : (s : S) (c : R) → s.cell ≡ Some c → Filled le blank c
  in_cell s c e = subst (λ v. IfSome v (Filled le blank)) e s.filled

  limits : (s s' : S) → SameLimits held room slack s.below s'.below → SameLimits side (side_room room) (side_slack slack) s s'
  limits s s' k = record { room_stays = ap (λ n. n + 1) k.room_stays; slack_stays = ap (λ n. n + 1) k.slack_stays }

  limits_stay : (s s' : S) → s'.below ≡ s.below → SameLimits side (side_room room) (side_slack slack) s s'
  limits_stay s s' e = record { room_stays = ap (λ q. room q + 1) e; slack_stays = ap (λ q. slack q + 1) e }

  -- ---- put: e stays in the cell, and y goes below
  put_beside : (s s' : S) (c x e y : R) (r : Result (Put R) QueueFault) → s.cell ≡ Some c → Filled le blank x → Filled le blank y → ((ys : List R) → insert le e (insert le y ys) ≡ insert le x (insert le c ys)) → s'.cell ≡ Some e → Puts le blank held room slack s.below y r s'.below → Puts le blank side (side_room room) (side_slack slack) s x r s'
  put_beside s s' c x e y (Ok Kept) ce fx fy pair ee p =
      let old = held s.below in
      let was = with_record s c ce in
      let n = length_insert le c old in
      let k = ap length was in
      let h = p.1 in
      (fx, omega arith, with_record s' e ee ∙ ap (insert le e) p.2 ∙ pair old ∙ ap (insert le x) (sym was), limits s s' p.3)
  put_beside s s' c x e y (Ok (Displaced d)) ce fx fy pair ee p =
      let old = held s.below in
      let was = with_record s c ce in
      let n = length_insert le c old in
      let k = ap length was in
      let h = p.1 in
      let rest = p.2.rest in
      let near = p.2.near in
      let far = later_insert le d c old in
      let count = ap (later_than le d) was in (
        fx,
        omega arith,
        record {
          rest = insert le c rest;
          was = was ∙ ap (insert le c) p.2.was ∙ insert_insert le l c d rest;
          is = with_record s' e ee ∙ ap (insert le e) p.2.is ∙ pair rest;
          near = omega arith;
        },
        limits s s' p.3,
      )
  put_beside s s' c x e y (Err f) ce fx fy pair ee p = absurd (not_blank le blank l y fy p.0)

  pub side_puts : (s : S) (x : R) (r : Result (Put R) QueueFault) (s' : S) → SidePuts le blank held room slack s x r s' → Puts le blank side (side_room room) (side_slack slack) s x r s'
  side_puts s x r s' w =
      ⊎_elim
      (λ (t : le blank x ≡ true).
      let k = rw t at w in
      subst (λ v. Puts le blank side (side_room room) (side_slack slack) s x v s') (sym k.0) (l.antisym x blank (ends x) t, refl, k.1))
      (λ (fx : le blank x ≡ false). ⊎_elim
      (λ (e : s.cell ≡ None).
      let k = rw (fx, e) at w in
      let was = free_cell s e in
      let n = ap length was in
      let h = (lawful s.below).within in
      let is : side s' ≡ insert le x (side s) = with_record s' x k.1 ∙ ap (λ q. insert le x (held q)) k.2 ∙ ap (insert le x) (sym was) in
      subst (λ v. Puts le blank side (side_room room) (side_slack slack) s x v s') (sym k.0) (fx, omega arith, is, limits_stay s s' k.2))
      (λ (h : (c : R) × (s.cell ≡ Some c)).
      let c = h.0 in
      let k = rw (fx, h.1) at w in
      put_beside s s' c x (earlier le c x) (later le c x) r h.1 fx
      (cond_both (le c x) x c (Filled le blank) (λ _. fx) (λ _. in_cell s c h.1))
      (pair_beside le l c x) k.0 k.1)
      (cases_cell s.cell))
      (cases_Bool (le blank x))

  -- ---- take and exchange: the first is below
  first_below : (s : S) (c r : R) (rest : List R) → s.cell ≡ Some c → leader le s.cell (held s.below) ≡ None → held s.below ≡ r ∷ rest → side s ≡ r ∷ insert le c rest
  first_below s c r rest ce n e =
      let past : leads le c (held s.below) ≡ false = leader_none le c (held s.below) (sym (ap (λ v. leader le v (held s.below)) ce) ∙ n) in
      with_record s c ce ∙ ap (insert le c) e ∙ insert_past le c r rest (sym (ap (leads le c) e) ∙ past)

  -- over a queue that holds nothing a record in the cell leads
  nothing_held : (s : S) → leader le s.cell (held s.below) ≡ None → held s.below ≡ [] → side s ≡ []
  nothing_held s n e =
      ⊎_elim
      (λ (f : s.cell ≡ None). free_cell s f ∙ e)
      (λ (h : (c : R) × (s.cell ≡ Some c)).
      absurd (both_ways (leads le h.0 (held s.below)) (leader_none le h.0 (held s.below) (sym (ap (λ v. leader le v (held s.below)) h.1) ∙ n)) (ap (leads le h.0) e)))
      (cases_cell s.cell)

  -- the cell's record is the first
  leads_held : (s : S) (c : R) → leader le s.cell (held s.below) ≡ Some c → side s ≡ c ∷ held s.below
  leads_held s c e =
      let k = leader_some le s.cell (held s.below) c e in
      with_record s c k.0 ∙ leads_all le l c (held s.below) (lawful s.below).ascends k.1

  take_below : (s s' : S) (r : Result R QueueFault) → leader le s.cell (held s.below) ≡ None → s'.cell ≡ s.cell → Takes held room slack s.below r s'.below → Takes side (side_room room) (side_slack slack) s r s'
  take_below s s' (Ok r) n ce p =
      let first : side s ≡ r ∷ side s' =
      ⊎_elim
      (λ (f : s.cell ≡ None). free_cell s f ∙ p.0 ∙ ap (λ v. r ∷ v) (sym (free_cell s' (ce ∙ f))))
      (λ (h : (c : R) × (s.cell ≡ Some c)). first_below s h.0 r (held s'.below) h.1 n p.0 ∙ ap (λ v. r ∷ v) (sym (with_record s' h.0 (ce ∙ h.1))))
      (cases_cell s.cell) in
      (first, limits s s' p.1)
  take_below s s' (Err e) n ce p = (nothing_held s n p.0, p.1, same s s' ce p.2)

  pub side_takes : (s : S) (r : Result R QueueFault) (s' : S) → SideTakes le held room slack s r s' → Takes side (side_room room) (side_slack slack) s r s'
  side_takes s r s' w =
      ⊎_elim
      (λ (n : leader le s.cell (held s.below) ≡ None). let k = rw n at w in take_below s s' r n k.0 k.1)
      (λ (h : (c : R) × (leader le s.cell (held s.below) ≡ Some c)).
      let k = rw h.1 at w in
      subst (λ v. Takes side (side_room room) (side_slack slack) s v s') (sym k.0)
      (leads_held s h.0 h.1 ∙ ap (λ v. h.0 ∷ v) (sym (free_cell s' k.1 ∙ ap held k.2)), limits_stay s s' k.2))
      (cases_cell (leader le s.cell (held s.below)))

  exchange_below : (s s' : S) (x : R) (r : Result R QueueFault) → leader le s.cell (held s.below) ≡ None → s'.cell ≡ s.cell → Exchanges le blank held room slack s.below x r s'.below → Exchanges le blank side (side_room room) (side_slack slack) s x r s'
  exchange_below s s' x (Ok r) n ce p =
      let rest = p.1.rest in
      ⊎_elim
      (λ (f : s.cell ≡ None). (p.0, record { rest = rest; was = free_cell s f ∙ p.1.was; is = free_cell s' (ce ∙ f) ∙ p.1.is }, limits s s' p.2))
      (λ (h : (c : R) × (s.cell ≡ Some c)).
      let c = h.0 in (
        p.0,
        record {
          rest = insert le c rest;
          was = first_below s c r rest h.1 n p.1.was;
          is = with_record s' c (ce ∙ h.1) ∙ ap (insert le c) p.1.is ∙ insert_insert le l c x rest;
        },
        limits s s' p.2,
      ))
      (cases_cell s.cell)
  exchange_below s s' x (Err e) n ce p =
      (⊎_elim inl (λ h. inr (h.0, nothing_held s n h.1, h.2)) p.0, same s s' ce p.1)

  pub side_exchanges : (s : S) (x : R) (r : Result R QueueFault) (s' : S) → SideExchanges le blank held room slack s x r s' → Exchanges le blank side (side_room room) (side_slack slack) s x r s'
  side_exchanges s x r s' w =
      ⊎_elim
      (λ (t : le blank x ≡ true).
      let k = rw t at w in
      subst (λ v. Exchanges le blank side (side_room room) (side_slack slack) s x v s') (sym k.0) (inl (l.antisym x blank (ends x) t, refl), k.1))
      (λ (fx : le blank x ≡ false). ⊎_elim
      (λ (n : leader le s.cell (held s.below) ≡ None). let k = rw (fx, n) at w in exchange_below s s' x r n k.0 k.1)
      (λ (h : (c : R) × (leader le s.cell (held s.below) ≡ Some c)).
      let k = rw (fx, h.1) at w in
      subst (λ v. Exchanges le blank side (side_room room) (side_slack slack) s x v s') (sym k.0)
      (fx, record { rest = held s.below; was = leads_held s h.0 h.1; is = with_record s' x k.1 ∙ ap (λ q. insert le x (held q)) k.2 }, limits_stay s s' k.2))
      (cases_cell (leader le s.cell (held s.below))))
      (cases_Bool (le blank x))
