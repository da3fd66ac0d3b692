-- What each call of a grouped queue does: the queue's words for a step over cells that stand as the type says.
use Rattle.std.proofs.Common.{◌≡◌, ℕ, ◌+◌, ◌-◌, ◌*◌, ◌<◌, ◌≤◌, Bool, true, false, cond, List, [], ◌∷◌, length, get_or, take, drop, replicate, Ok, Err, Result, vec_len, sym, ap, ◌∙◌, subst, ⊎_elim, arith}
use Rattle.std.proofs.lemmas.Bool.{both_ways, cases_lt}
use Rattle.std.proofs.lemmas.List.{with_items_is, get_or_read_under, get_or-replicate, get_or_past, length-replicate}
use Rattle.std.proofs.ByRecursion.{All-from_get_or}
use Rattle.std.specs.Vec.{with_items}
use Rattle.records.specs.Linear.{Linear}
use Rattle.records.specs.Sorting.{insert, sort, Filled}
use Rattle.records.specs.declared.record.Record.{Ghosts}
use Rattle.records.proofs.Sorting.{length_insert}
use Rattle.queues.specs.Queues.{SameLimits, Puts, Takes, Exchanges}
use Rattle.queues.specs.Cells.{held_in, take_answer, Counted}
use Rattle.queues.specs.declared.fault.QueueFault.{QueueFault}
use Rattle.queues.specs.declared.queue.Put.{Put}
use Rattle.queues.specs.declared.queue.Put.TheVariants.{Kept, Displaced}
use Rattle.queues.specs.declared.fault.QueueFault.TheVariants.{Empty, Blank}
use Rattle.queues.proofs.Cells as queue
use Rattle.standing.specs.Facts.{Ascends, Staggers, Packs}
use Rattle.standing.specs.Steps.{groups_of, put_cells, take_cells, exchange_cells}
use Rattle.standing.proofs.Keeps.{Sound}
use Rattle.standing.proofs.Moves.{first_is, take_is, exchange_is, last_is, put_is, full_is, near_is, put_keeps, take_keeps, exchange_keeps}
use Rattle.standing.proofs.Places.{groups_sound, groups_ascend, groups_stagger, groups_pack}
use Rattle.standing.proofs.Rows.{row_end}
use Rattle.grouped.specs.QueuesLemmas.{some_cells, groups_lawful}
use Rattle.grouped.specs.Queues.{cells_of, groups_held, groups_room, groups_slack, first_cell, last_cell, after_put, after_take, after_exchange}
use Rattle.grouped.specs.declared.Groups.{Groups}

-- the four facts that a grouped queue says of its cells
abbrev pub Stands : {R : Type 0} → (R → R → Bool) → R → ℕ → ℕ → List R → ℕ → Type 0
Stands le d m n cells held = record {
  ascends : Ascends le d m n cells;
  staggers : Staggers le d m n cells;
  packs : Packs le d m n cells;
  counts : Counted le d cells held;
}

pub few_cells : (m n : ℕ) → m ≤ 64 → n ≤ 64 → m * n ≤ 4096
few_cells m n h k = let lt : m < 65 = omega arith in let r = row_end m 65 n lt in omega arith

module _ {R : Type 0} {k : Ghosts R} (q : Groups R k) where
  -- the shape, out of the type
  pub whole : length (cells_of q) ≡ groups_room q
  whole = sym q.over.cells.ok.0 ∙ q.over.whole

  some : 0 < groups_room q
  some = some_cells q.over.shape.groups q.over.shape.size q.over.shape.some q.over.shape.two

  -- the first cell, as it is read
  pub first_read : (x : R) → x ≡ get_or (cells_of q) 0 x → x ≡ first_cell q
  first_read x e = let s = some in let w = q.over.whole in get_or_read_under (cells_of q) 0 (vec_len q.over.cells) x k.last e (omega arith) q.over.cells.ok.0

  -- a step over the cells as a slice, s, that leaves ws: what the queue's cells are after it
  module _ (s ws : List R) (value : s ≡ cells_of q) (len : length s ≡ vec_len q.over.cells) (same : length ws ≡ length s) where
    abbrev pub left : List R
    left = (with_items q.over.cells ws).items

    pub after : (f : List R → List R) → ws ≡ f s → left ≡ f (cells_of q)
    after f w = with_items_is q.over.cells ws (same ∙ len) ∙ w ∙ ap f value

module _ {R : Type 0} {k : Ghosts R} (l : Linear k.order) (ends : (x : R) → k.order x k.last ≡ true) (q : Groups R k) where
  abbrev le : R → R → Bool
  le = k.order

  abbrev d : R
  d = k.last

  abbrev m : ℕ
  m = q.over.shape.groups

  abbrev n : ℕ
  n = q.over.shape.size

  abbrev E : List R
  E = cells_of q

  abbrev SoundIn : List R → Type 0
  SoundIn cells = Sound le d n (groups_of m n cells)

  -- the three relations over the cells alone
  abbrev PutsIn : R → Result (Put R) QueueFault → List R → Type 0
  PutsIn = Puts le d (held_in le d) (λ _. groups_room q) (λ _. groups_slack q) E

  abbrev TakesIn : Result R QueueFault → List R → Type 0
  TakesIn = Takes (held_in le d) (λ _. groups_room q) (λ _. groups_slack q) E

  abbrev ExchangesIn : R → Result R QueueFault → List R → Type 0
  ExchangesIn = Exchanges le d (held_in le d) (λ _. groups_room q) (λ _. groups_slack q) E

  sound : SoundIn E
  sound = groups_sound le l d n q.over.shape.two m E (whole q) q.ascends q.staggers q.packs

  stands : (cells : List R) (held : ℕ) → length cells ≡ m * n → SoundIn cells → held ≡ length (held_in le d cells) → Stands le d m n cells held
  stands cells held w s h = record {
    ascends = groups_ascend le l d n q.over.shape.two m cells w s;
    staggers = groups_stagger le l d n q.over.shape.two m cells w s;
    packs = groups_pack le l d n q.over.shape.two m cells w s;
    counts = h;
  }

  pub held_few : q.held ≤ 4096
  held_few =
      let w = (groups_lawful le l d m n (vec_len q.over.cells) E q.over.whole q.over.cells.ok.0 q.over.shape.some q.over.shape.two).within in
      let f = few_cells m n q.over.shape.few q.over.shape.small in
      let c = q.counts in
      omega arith

  -- the first of all cells, and the others
  firsts : sort le E ≡ first_cell q ∷ sort le (drop 1 E)
  firsts = first_is le l d ends n q.over.shape.two m E q.over.shape.some (whole q) sound

  pub held_none : (x : R) → x ≡ get_or E 0 x → true ≡ le d x → groups_held q ≡ []
  held_none x e t = queue.held_none le d l ends E (first_cell q) (sort le (drop 1 E)) firsts (sym (t ∙ ap (le d) (first_read q x e)))

  pub held_some : (x : R) → x ≡ get_or E 0 x → false ≡ le d x → groups_held q ≡ x ∷ queue.kept le d (sort le (drop 1 E))
  held_some x e f = let r = first_read q x e in queue.held_some le d l ends E (first_cell q) (sort le (drop 1 E)) firsts (sym (f ∙ ap (le d) r)) ∙ ap (λ v. v ∷ queue.kept le d (sort le (drop 1 E))) (sym r)

  -- ---- put: x comes in, and z, the last cell, goes out
  module _ (x : R) (filled : false ≡ le d x) (s ws : List R) (value : s ≡ E) (len : length s ≡ vec_len q.over.cells) (same : length ws ≡ length s) (step : ws ≡ put_cells le d m n x s) where
    abbrev cells : List R
    cells = left q s ws value len same

    is : cells ≡ after_put x q
    is = after q s ws value len same (put_cells le d m n x) step

    put_means : PutsIn x (Ok (cond (le d (last_cell q)) Kept (Displaced (last_cell q)))) cells
    put_means =
        queue.puts_held le d l ends E cells (take (m * n - 1) E) x (last_cell q) (m * n) m (whole q) (last_is le l d ends n q.over.shape.two m E q.over.shape.some (whole q)) (sym filled)
        (ap (λ v. insert le (last_cell q) (sort le v)) is ∙ put_is le l d ends n q.over.shape.two m x E q.over.shape.some (whole q) sound)
        (full_is le l d ends n q.over.shape.two m E q.over.shape.some (whole q) sound) (λ _. near_is le l d ends n q.over.shape.two m E q.over.shape.some (whole q) sound)

    put_stands : (held : ℕ) → held ≡ length (held_in le d cells) → Stands le d m n cells held
    put_stands held h =
        let k = put_keeps le l d ends n q.over.shape.two m E sound x (sym filled) in
        stands cells held (ap length is ∙ k.1) (subst SoundIn (sym is) k.0) h

    module _ (out : R) (pushed : out ≡ get_or s (m * n - 1) d) where
      last : out ≡ last_cell q
      last = pushed ∙ ap (λ v. get_or v (m * n - 1) d) value

      kept : true ≡ le d out → PutsIn x (Ok Kept) cells
      kept t = subst (λ b. PutsIn x (Ok (cond b Kept (Displaced (last_cell q)))) cells) (sym (t ∙ ap (le d) last)) put_means

      displaced : false ≡ le d out → PutsIn x (Ok (Displaced out)) cells
      displaced f =
          subst (λ v. PutsIn x (Ok (Displaced v)) cells) (sym last)
          (subst (λ b. PutsIn x (Ok (cond b Kept (Displaced (last_cell q)))) cells) (sym (f ∙ ap (le d) last)) put_means)

      pub kept_stands : true ≡ le d out → Stands le d m n cells (q.held + 1)
      kept_stands t = let c = q.counts in put_stands (q.held + 1) (ap (λ v. v + 1) c ∙ sym (ap length (kept t).2 ∙ length_insert le x (groups_held q)))

      pub displaced_stands : false ≡ le d out → Stands le d m n cells q.held
      displaced_stands f =
          let p = (displaced f).2 in
          put_stands q.held (q.counts ∙ ap length p.was ∙ length_insert le out p.rest ∙ sym (ap length p.is ∙ length_insert le x p.rest))

      module _ (q' : Groups R k) (stay : cells_of q' ≡ cells) (limits : SameLimits groups_held groups_room groups_slack q q') where
        pub kept_puts : true ≡ le d out → Puts le d groups_held groups_room groups_slack q x (Ok Kept) q'
        kept_puts t = let p = kept t in (p.0, p.1, ap (held_in le d) stay ∙ p.2, limits)

        pub displaced_puts : false ≡ le d out → Puts le d groups_held groups_room groups_slack q x (Ok (Displaced out)) q'
        displaced_puts f = let p = displaced f in (p.0, p.1, record { rest = p.2.rest; was = p.2.was; is = ap (held_in le d) stay ∙ p.2.is; near = p.2.near }, limits)

  -- ---- take and exchange: a, the first cell, goes out
  module _ (a : R) (first : a ≡ get_or E 0 a) (filled : false ≡ le d a) where
    first_filled : Filled le d (first_cell q)
    first_filled = sym (filled ∙ ap (le d) (first_read q a first))

    pub some_held : 0 < q.held
    some_held = let e = ap length (held_some a first filled) in let c = q.counts in omega arith

    module _ (s ws : List R) (value : s ≡ E) (len : length s ≡ vec_len q.over.cells) (same : length ws ≡ length s) (out : R) (gone : out ≡ get_or s 0 d) where
      abbrev new : List R
      new = left q s ws value len same

      cell : out ≡ first_cell q
      cell = gone ∙ ap (λ v. get_or v 0 d) value

      module _ (step : ws ≡ take_cells le d m n s) where
        taken : new ≡ after_take q
        taken = after q s ws value len same (take_cells le d m n) step

        takes : TakesIn (Ok out) new
        takes =
            let sorts = ap (sort le) taken ∙ take_is le l d ends n q.over.shape.two m E q.over.shape.some (whole q) sound in
            let t = queue.takes_held le d l ends E (first_cell q) (sort le (drop 1 E)) firsts new (groups_room q) (groups_slack q) (λ b. absurd (both_ways (le d (first_cell q)) first_filled b)) (λ _. sorts) in
            subst (λ v. TakesIn (Ok v) new) (sym cell)
            (subst (λ b. TakesIn (cond b (Err Empty) (Ok (first_cell q))) new) first_filled t)

        pub take_stands : Stands le d m n new (q.held - 1)
        take_stands =
            let k = take_keeps le l d ends n q.over.shape.two m E sound in
            let e = ap length takes.0 in
            let c = q.counts in
            stands new (q.held - 1) (ap length taken ∙ k.1) (subst SoundIn (sym taken) k.0) (omega arith)

        pub first_takes : (q' : Groups R k) → cells_of q' ≡ new → SameLimits groups_held groups_room groups_slack q q' → Takes groups_held groups_room groups_slack q (Ok out) q'
        first_takes q' stay limits = (takes.0 ∙ ap (λ v. out ∷ held_in le d v) (sym stay), limits)

      module _ (x : R) (newcomer : false ≡ le d x) (step : ws ≡ exchange_cells le d m n x s) where
        traded : new ≡ after_exchange x q
        traded = after q s ws value len same (exchange_cells le d m n x) step

        exchanges : ExchangesIn x (Ok out) new
        exchanges =
            let sorts = ap (sort le) traded ∙ exchange_is le l d ends n q.over.shape.two m x E q.over.shape.some (whole q) sound in
            let t = queue.exchanges_held le d l ends E (first_cell q) (sort le (drop 1 E)) firsts new (groups_room q) (groups_slack q) x (λ _. sorts) (λ b. absurd (both_ways (le d x) (sym newcomer) b)) (λ b. absurd (both_ways (le d (first_cell q)) first_filled b)) in
            let p = subst (λ b. ExchangesIn x (cond b (Err Blank) (take_answer le d (first_cell q))) new) (sym newcomer) t in
            subst (λ v. ExchangesIn x (Ok v) new) (sym cell)
            (subst (λ b. ExchangesIn x (cond b (Err Empty) (Ok (first_cell q))) new) first_filled p)

        pub exchange_stands : Stands le d m n new q.held
        exchange_stands =
            let k = exchange_keeps le l d ends n q.over.shape.two m E sound x (sym newcomer) in
            let p = exchanges.1 in
            let e = ap length p.was in
            let f = ap length p.is ∙ length_insert le x p.rest in
            let c = q.counts in
            stands new q.held (ap length traded ∙ k.1) (subst SoundIn (sym traded) k.0) (omega arith)

        pub first_exchanges : (q' : Groups R k) → cells_of q' ≡ new → SameLimits groups_held groups_room groups_slack q q' → Exchanges le d groups_held groups_room groups_slack q x (Ok out) q'
        first_exchanges q' stay limits = let p = exchanges in (p.0, record { rest = p.1.rest; was = p.1.was; is = ap (held_in le d) stay ∙ p.1.is }, limits)

-- cells that are all blank
module _ {R : Type 0} (le : R → R → Bool) (l : Linear le) (d : R) (ends : (x : R) → le x d ≡ true) (m n : ℕ) where
  blank_at : (c i : ℕ) → get_or (replicate c d) i d ≡ d
  blank_at c i = ⊎_elim (λ (h : i < c). get_or-replicate c i d d h) (λ (h : c ≤ i). get_or_past (replicate c d) i d (let k = length-replicate c d in omega arith)) (cases_lt i c)

  pub blank_stands : (cells : List R) → cells ≡ replicate (m * n) d → Stands le d m n cells 0
  blank_stands cells e =
      let at : (i : ℕ) → le d (get_or cells i d) ≡ true = λ i. subst (λ v. le d v ≡ true) (sym (ap (λ v. get_or v i d) e ∙ blank_at (m * n) i)) (ends d) in
      let to : (i j : ℕ) → le (get_or cells i d) (get_or cells j d) ≡ true = λ i j. l.trans _ d _ (ends (get_or cells i d)) (at j) in
      record {
        ascends = λ i j k _ _ _. to (i * n + j) (i * n + k);
        staggers = λ i k _ _. to (i * n + k) ((i + 1) * n + 0);
        packs = λ i j k p _ _ _ _ _. at (j * n + p);
        counts = sym (ap length (queue.kept_none le d (sort le cells) (queue.all_sort le (λ y. le d y ≡ true) cells (All-from_get_or (λ y. le d y ≡ true) cells d (λ i _. at i)))));
      }
