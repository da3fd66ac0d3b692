-- What the steps make of a sorted queue: a step is shown the queue's cells as `ds`, leaves `ws` in their place, and hands out a record.
use Rattle.std.proofs.Common.{◌≡◌, ◌+◌, ◌-◌, ◌<◌, ◌≤◌, true, List, length, get_or, take, vec_items, refl, sym, ap, ◌∙◌, ⊎_elim, Some, Ok, Err, arith}
use Rattle.std.specs.Vec.{with_items}
use Rattle.std.specs.List.{slice_get}
use Rattle.std.proofs.lemmas.Bool.{cases_lt}
use Rattle.std.proofs.lemmas.List.{with_items_is, get_or-take, length-take-le}
use Rattle.std.proofs.lemmas.Option.{slice_get-get_or}
use Rattle.records.specs.declared.record.Record.{Ghosts}
use Rattle.records.specs.Linear.{Linear}
use Rattle.records.specs.Sorting.{Filled}
use Rattle.queues.specs.Cells.{held_in, Counted, take_answer}
use Rattle.queues.specs.Queues.{Puts, Takes, Exchanges, first_of}
use Rattle.queues.specs.declared.queue.Put.TheVariants.{Kept, Displaced}
use Rattle.queues.specs.declared.fault.QueueFault.TheVariants.{Empty}
use Rattle.standing.specs.Lines.{Ascends, put_cells, take_cells, exchange_cells}
use Rattle.standing.proofs.Meaning as meaning
use Rattle.standing.proofs.Telling as telling
use Rattle.sorted.specs.Lines.{sorted_cells, sorted_held, sorted_room, first_cell, last_cell}
use Rattle.sorted.specs.declared.Sorted.{Sorted}

module _ {R : Type 0} {M : Ghosts R} (l : Linear M.order) (ends : (x : R) → M.order x M.last ≡ true) (q : Sorted R M) where
  -- its cells, as the laws of a line of cells speak of them
  line : meaning.Line M.order M.last (sorted_cells q) (sorted_room q) q.held
  line = record { whole = q.over.cells.ok.0; one = q.over.some; ascending = q.ascending; counted = q.counted }

  -- no more records than cells
  pub within : q.held ≤ sorted_room q
  within = meaning.held_within _ _ l ends _ _ _ line

  -- the first of the cells that hold a record
  pub first_is : slice_get (take q.held (sorted_cells q)) 0 ≡ first_of (sorted_held q)
  first_is =
      let w = within in
      let whole = q.over.cells.ok.0 in
      let k = length-take-le q.held (sorted_cells q) (omega arith) in
      ⊎_elim
      (λ (s : 0 < q.held). slice_get-get_or (take q.held (sorted_cells q)) 0 M.last (omega arith) ∙ ap Some (get_or-take q.held (sorted_cells q) 0 M.last s) ∙ meaning.first_held _ _ l ends _ _ _ line (first_cell q) refl s)
      (λ (n : q.held ≤ 0).
      let none : q.held ≡ 0 = omega arith in
      ap (λ v. slice_get (take v (sorted_cells q)) 0) none ∙ sym (ap first_of (meaning.none_held _ _ l ends _ _ _ line none)))
      (cases_lt 0 q.held)

  -- what a take answers where nothing is held
  pub empty_told : q.held ≡ 0 → Err Empty ≡ take_answer M.order M.last (first_cell q)
  empty_told none = telling.empty_told M.order M.last (first_cell q) (meaning.free_first _ _ l ends _ _ _ line (first_cell q) refl none)

  -- the cells after a step
  abbrev pub after : List R → List R
  after ws = vec_items (with_items q.over.cells ws)

  module _ (ds : List R) (shown : ds ≡ sorted_cells q) where
    after_is : (ws : List R) (F : List R → List R) → length ds ≡ sorted_room q → length ws ≡ length ds → ws ≡ F ds → after ws ≡ F (sorted_cells q)
    after_is ws F long same e = with_items_is q.over.cells ws (same ∙ long) ∙ e ∙ ap F shown

    -- x came in and the last cell, z, went out
    module _ (ws : List R) (x z : R) (long : length ds ≡ sorted_room q) (same : length ws ≡ length ds) (step : ws ≡ put_cells M.order x ds) (out : z ≡ get_or ds (length ds - 1) M.last) where
      last_is : z ≡ last_cell q
      last_is = out ∙ ap (λ v. get_or v (length ds - 1) M.last) shown ∙ ap (λ n. get_or (sorted_cells q) (n - 1) M.last) long

      put_is : after ws ≡ put_cells M.order x (sorted_cells q)
      put_is = after_is ws (put_cells M.order x) long same step

      pub put_ascends : Ascends M.order M.last (after ws)
      put_ascends = meaning.put_ascends _ _ l ends _ _ _ line z last_is x _ put_is

      pub counted_more : Filled M.order M.last x → M.order M.last z ≡ true → Counted M.order M.last (after ws) (q.held + 1)
      counted_more = meaning.counted_more _ _ l ends _ _ _ line z last_is x _ put_is

      pub counted_same : Filled M.order M.last x → Filled M.order M.last z → Counted M.order M.last (after ws) q.held
      counted_same = meaning.counted_same _ _ l ends _ _ _ line z last_is x _ put_is

      pub put_keeps : Filled M.order M.last x → M.order M.last z ≡ true → Puts M.order M.last (held_in M.order M.last) (λ _. sorted_room q) (λ _. 1) (sorted_cells q) x (Ok Kept) (after ws)
      put_keeps = meaning.put_keeps _ _ l ends _ _ _ line z last_is x _ put_is

      pub put_displaces : Filled M.order M.last x → Filled M.order M.last z → Puts M.order M.last (held_in M.order M.last) (λ _. sorted_room q) (λ _. 1) (sorted_cells q) x (Ok (Displaced z)) (after ws)
      put_displaces = meaning.put_displaces _ _ l ends _ _ _ line z last_is x _ put_is

    -- the first record, a, went out
    module _ (a : R) (out : a ≡ get_or ds 0 M.last) (some : 0 < q.held) where
      first_at : a ≡ first_cell q
      first_at = out ∙ ap (λ v. get_or v 0 M.last) shown

      filled : Filled M.order M.last a
      filled = meaning.filled_first _ _ l ends _ _ _ line a first_at some

      pub taken_told : Ok a ≡ take_answer M.order M.last (first_cell q)
      taken_told = telling.taken_told M.order M.last a (first_cell q) first_at filled

      -- and x came in
      module _ (ws : List R) (x : R) (long : length ds ≡ sorted_room q) (same : length ws ≡ length ds) (step : ws ≡ exchange_cells M.order x ds) where
        exchange_is : after ws ≡ exchange_cells M.order x (sorted_cells q)
        exchange_is = after_is ws (exchange_cells M.order x) long same step

        pub exchange_ascends : Ascends M.order M.last (after ws)
        exchange_ascends = meaning.exchange_ascends _ _ l ends _ _ _ line a first_at x _ exchange_is

        pub counted_less : x ≡ M.last → Counted M.order M.last (after ws) (q.held - 1)
        counted_less = meaning.counted_less _ _ l ends _ _ _ line a first_at x _ exchange_is filled

        pub takes : x ≡ M.last → Takes (held_in M.order M.last) (λ _. sorted_room q) (λ _. 1) (sorted_cells q) (Ok a) (after ws)
        takes = meaning.takes _ _ l ends _ _ _ line a first_at x _ exchange_is filled

        pub take_is : x ≡ M.last → after ws ≡ take_cells M.last (sorted_cells q)
        take_is b = exchange_is ∙ ap (λ v. exchange_cells M.order v (sorted_cells q)) b ∙ meaning.take_is _ _ l ends _ _ _ line a first_at

        pub counted_still : Filled M.order M.last x → Counted M.order M.last (after ws) q.held
        counted_still f = meaning.counted_still _ _ l ends _ _ _ line a first_at x _ exchange_is f filled

        pub exchanges : Filled M.order M.last x → Exchanges M.order M.last (held_in M.order M.last) (λ _. sorted_room q) (λ _. 1) (sorted_cells q) x (Ok a) (after ws)
        exchanges f = meaning.exchanges _ _ l ends _ _ _ line a first_at x _ exchange_is f filled
