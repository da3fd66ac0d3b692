-- What the calls of a sorted queue do to the collection that its cells hold.
use Rattle.std.proofs.Common.{◌≡◌, ℕ, ◌+◌, ◌-◌, ◌<◌, ◌≤◌, Bool, true, false, cond, List, [], ◌∷◌, ◌++◌, length, get_or, take, drop, replicate, Some, Ok, Err, sym, refl, ap, ◌∙◌, subst, ⊎_elim, append-nil, arith}
use Rattle.std.specs.List.{AllByRecursion as All}
use Rattle.std.proofs.lemmas.Bool.{cases_Bool, both_ways, cond-true, cond-false}
use Rattle.std.proofs.lemmas.List.{take_all, take_more, drop_more, nil_from_length}
use Rattle.std.proofs.ByRecursion.{All-from_get_or, All-push, All-weaker}
use Rattle.records.specs.Linear.{Linear}
use Rattle.records.specs.Sorting.{insert, sort, Ascending, later_than, Filled}
use Rattle.records.proofs.Sorting.{length_insert, insert_insert, ascending_insert, sort_ascending, le_refl}
use Rattle.standing.proofs.Replacing.{front, insert_between, front_no_later}
use Rattle.queues.specs.Queues.{Puts, Takes, Exchanges, first_of}
use Rattle.queues.specs.Cells.{held_in, take_answer, Counted}
use Rattle.queues.proofs.Cells.{kept, kept_none, puts_held, takes_held, exchanges_held, held_none, held_some}
use Rattle.queues.specs.declared.queue.Put.TheVariants.{Kept, Displaced}
use Rattle.queues.specs.declared.fault.QueueFault.TheVariants.{Empty, Blank}
use Rattle.standing.specs.Lines.{Ascends, put_cells, take_cells, exchange_cells}
use Rattle.standing.proofs.Ascending.{get_or_same, within, ascending_from, ascends_from, all_no_later}
use Rattle.standing.proofs.Lists.{ascending_take}

-- a sorted queue's cells: there is one at least, they ascend, and so many of them hold a record
pub record Line {R : Type 0} (le : R → R → Bool) (blank : R) (cells : List R) (room held : ℕ) : Type 0 where
  pub whole : room ≡ length cells
  pub one : 1 ≤ room
  pub ascending : Ascends le blank cells
  pub counted : Counted le blank cells held

module _ {R : Type 0} (le : R → R → Bool) (blank : R) (l : Linear le) (ends : (x : R) → le x blank ≡ true) where
  -- none of a list stands after what all of it stands no later than
  none_later : (z : R) (xs : List R) → All (λ y. le y z ≡ true) xs → later_than le z xs ≡ 0
  none_later z [] a = refl
  none_later z (y ∷ ys) a = cond-true (le y z) (later_than le z ys) (later_than le z ys + 1) a.0 ∙ none_later z ys a.1

  -- at the end of ascending cells x stands last
  insert_last : (x : R) (xs : List R) → Ascending le xs → All (λ y. le y x ≡ true) xs → insert le x xs ≡ xs ++ (x ∷ [])
  insert_last x xs a h = ap (insert le x) (sym (append-nil xs)) ∙ insert_between le l x xs [] (subst (Ascending le) (sym (append-nil xs)) a) h tt

  ascending_rest : (xs : List R) → Ascending le xs → Ascending le (drop 1 xs)
  ascending_rest [] a = tt
  ascending_rest (x ∷ xs) a = a.1

  -- ---- cells that are all blank
  module _ (n : ℕ) (new : List R) (is : new ≡ replicate n blank) where
    pub blank_ascends : Ascends le blank new
    blank_ascends i k h = ap (λ v. le (get_or v i blank) (get_or v k blank)) is ∙ ap (λ v. le v (get_or (replicate n blank) k blank)) (get_or_same n i blank) ∙ ap (le blank) (get_or_same n k blank) ∙ ends blank

    pub blank_counted : Counted le blank new 0
    blank_counted = sym (ap length (ap (kept le blank) (sort_ascending le l new (ascending_from le blank new blank_ascends) ∙ is) ∙ kept_none le blank (replicate n blank) (all_no_later le blank l ends blank n)))

  module _ (cells : List R) (room held : ℕ) (s : Line le blank cells room held) where
    whole : room ≡ length cells
    whole = s.whole

    counted : held ≡ length (held_in le blank cells)
    counted = s.counted

    some : 0 < length cells
    some = let n = whole in let o = s.one in omega arith

    asc : Ascending le cells
    asc = ascending_from le blank cells s.ascending

    pub held_within : held ≤ room
    held_within = let w = within le blank l ends cells held s.ascending counted in let n = whole in omega arith

    pub none_held : held ≡ 0 → held_in le blank cells ≡ []
    none_held e = nil_from_length (held_in le blank cells) (sym counted ∙ e)

    front_asc : Ascending le (front cells)
    front_asc = ascending_take le (length cells - 1) cells asc

    -- ---- put, where z is the last cell
    module _ (z : R) (last_is : z ≡ get_or cells (room - 1) blank) where
      last_at : z ≡ get_or cells (length cells - 1) blank
      last_at = last_is ∙ ap (λ v. get_or cells (v - 1) blank) whole

      split : cells ≡ front cells ++ (z ∷ [])
      split =
          let o = some in
          let e : length cells - 1 + 1 ≡ length cells = omega arith in
          sym (take_all (length cells) cells (omega arith)) ∙ ap (λ v. take v cells) (sym e) ∙ take_more cells (length cells - 1) blank (omega arith) ∙ ap (λ v. front cells ++ (v ∷ [])) (sym last_at)

      front_first : All (λ y. le y z ≡ true) (front cells)
      front_first = subst (λ v. All (λ y. le y v ≡ true) (front cells)) (sym last_at) (front_no_later le l cells (length cells - 1) blank asc (let o = some in omega arith))

      all_first : All (λ y. le y z ≡ true) cells
      all_first = subst (All (λ y. le y z ≡ true)) (sym split) (All-push (λ y. le y z ≡ true) (front cells) z front_first (le_refl le l z))

      cells_are : cells ≡ insert le z (front cells)
      cells_are = split ∙ sym (insert_last z (front cells) front_asc front_first)

      -- where the last cell holds a record all do
      pub all_filled : Filled le blank z → All (Filled le blank) cells
      all_filled f = All-weaker (λ y. le y z ≡ true) (Filled le blank) (λ y p. ⊎_elim (λ (t : le blank y ≡ true). absurd (both_ways (le blank z) f (l.trans blank y z t p))) (λ (n : le blank y ≡ false). n) (cases_Bool (le blank y))) cells all_first

      module _ (x : R) (new : List R) (is : new ≡ put_cells le x cells) where
        new_asc : Ascending le new
        new_asc = subst (Ascending le) (sym is) (ascending_insert le l x (front cells) front_asc)

        pub put_ascends : Ascends le blank new
        put_ascends = ascends_from le blank new new_asc

        put_either : Filled le blank x → Puts le blank (held_in le blank) (λ _. room) (λ _. 1) cells x (Ok (cond (le blank z) Kept (Displaced z))) new
        put_either f =
            let out : sort le cells ≡ insert le z (sort le (front cells)) = sort_ascending le l cells asc ∙ cells_are ∙ ap (insert le z) (sym (sort_ascending le l (front cells) front_asc)) in
            let step : insert le z (sort le new) ≡ insert le x (sort le cells) = ap (insert le z) (sort_ascending le l new new_asc ∙ is) ∙ insert_insert le l z x (front cells) ∙ ap (insert le x) (sym (sort_ascending le l cells asc ∙ cells_are)) in
            let none = none_later z cells all_first in
            puts_held le blank l ends cells new (front cells) x z room 1 (sym whole) out f step all_filled (λ _. omega arith)

        pub put_keeps : Filled le blank x → le blank z ≡ true → Puts le blank (held_in le blank) (λ _. room) (λ _. 1) cells x (Ok Kept) new
        put_keeps f t = subst (λ v. Puts le blank (held_in le blank) (λ _. room) (λ _. 1) cells x (Ok v) new) (cond-true (le blank z) Kept (Displaced z) t) (put_either f)

        pub put_displaces : Filled le blank x → Filled le blank z → Puts le blank (held_in le blank) (λ _. room) (λ _. 1) cells x (Ok (Displaced z)) new
        put_displaces f t = subst (λ v. Puts le blank (held_in le blank) (λ _. room) (λ _. 1) cells x (Ok v) new) (cond-false (le blank z) Kept (Displaced z) t) (put_either f)

        pub counted_more : Filled le blank x → le blank z ≡ true → Counted le blank new (held + 1)
        counted_more f b =
            let t = put_keeps f b in
            ap (λ v. v + 1) counted ∙ sym (ap length t.2 ∙ length_insert le x (held_in le blank cells))

        pub counted_same : Filled le blank x → Filled le blank z → Counted le blank new held
        counted_same f b =
            let t = put_displaces f b in
            counted ∙ ap length t.2.was ∙ length_insert le z t.2.rest ∙ sym (ap length t.2.is ∙ length_insert le x t.2.rest)

    -- ---- take and exchange, where a is the first cell
    module _ (a : R) (first_is : a ≡ get_or cells 0 blank) where
      first : sort le cells ≡ a ∷ drop 1 cells
      first = sort_ascending le l cells asc ∙ drop_more cells 0 blank some ∙ ap (λ v. v ∷ drop 1 cells) (sym first_is)

      -- nothing is held just where the first cell is free
      pub free_first : held ≡ 0 → le blank a ≡ true
      free_first e = ⊎_elim (λ t. t) (λ (f : le blank a ≡ false). let h = ap length (held_some le blank l ends cells a (drop 1 cells) first f) in let n = counted in absurd (omega arith)) (cases_Bool (le blank a))

      pub filled_first : 0 < held → Filled le blank a
      filled_first e = ⊎_elim (λ (t : le blank a ≡ true). let h = ap length (held_none le blank l ends cells a (drop 1 cells) first t) in let n = counted in absurd (omega arith)) (λ f. f) (cases_Bool (le blank a))

      pub first_held : 0 < held → Some a ≡ first_of (held_in le blank cells)
      first_held e = sym (ap first_of (held_some le blank l ends cells a (drop 1 cells) first (filled_first e)))

      rest_asc : Ascending le (drop 1 cells)
      rest_asc = ascending_rest cells asc

      module _ (x : R) (new : List R) (is : new ≡ exchange_cells le x cells) where
        after_asc : Ascending le new
        after_asc = subst (Ascending le) (sym is) (ascending_insert le l x (drop 1 cells) rest_asc)

        pub exchange_ascends : Ascends le blank new
        exchange_ascends = ascends_from le blank new after_asc

        pub takes : Filled le blank a → x ≡ blank → Takes (held_in le blank) (λ _. room) (λ _. 1) cells (Ok a) new
        takes f e =
            subst (λ v. Takes (held_in le blank) (λ _. room) (λ _. 1) cells v new) (cond-false (le blank a) (Err Empty) (Ok a) f)
            (takes_held le blank l ends cells a (drop 1 cells) first new room 1 (λ t. absurd (both_ways (le blank a) f t)) (λ _. sort_ascending le l new after_asc ∙ is ∙ ap (λ v. insert le v (drop 1 cells)) e))

        pub exchanges : Filled le blank x → Filled le blank a → Exchanges le blank (held_in le blank) (λ _. room) (λ _. 1) cells x (Ok a) new
        exchanges fx f =
            subst (λ v. Exchanges le blank (held_in le blank) (λ _. room) (λ _. 1) cells x v new) (cond-false (le blank x) (Err Blank) (take_answer le blank a) fx ∙ cond-false (le blank a) (Err Empty) (Ok a) f)
            (exchanges_held le blank l ends cells a (drop 1 cells) first new room 1 x (λ _. sort_ascending le l new after_asc ∙ is) (λ t. absurd (both_ways (le blank x) fx t)) (λ t. absurd (both_ways (le blank a) f t)))

        pub counted_less : Filled le blank a → x ≡ blank → Counted le blank new (held - 1)
        counted_less f b =
            let t = takes f b in
            let h = ap length t.0 in let n = counted in omega arith

        pub counted_still : Filled le blank x → Filled le blank a → Counted le blank new held
        counted_still f b =
            let t = exchanges f b in
            counted ∙ ap length t.1.was ∙ sym (ap length t.1.is ∙ (let n = length_insert le x t.1.rest in omega arith))

      -- a free cell set among the others comes last
      pub take_is : insert le blank (drop 1 cells) ≡ take_cells blank cells
      take_is = insert_last blank (drop 1 cells) rest_asc (All-from_get_or (λ y. le y blank ≡ true) (drop 1 cells) blank (λ i h. ends (get_or (drop 1 cells) i blank)))
