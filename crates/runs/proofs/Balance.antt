-- The telegrams that a reader picks, line by line: an A line brings one in, and a D line or an X line takes out one that is there.
use Rattle.std.proofs.Common.{◌≡◌, ℕ, ◌+◌, ◌≤◌, Bool, cond, List, [], ◌∷◌, ◌++◌, ℤ, Some, None, Ok, Err, Option, Result, sym, refl, ap, ◌∙◌, subst, arith}
use Rattle.std.specs.List.{flat_map}
use Rattle.std.proofs.lemmas.List.{flat_map_more}
use Rattle.records.specs.Sorting.{insert}
use Rattle.records.specs.Telegrams.{stands, blank}
use Rattle.queues.specs.Queues.{Puts, put_of}
use Rattle.records.specs.declared.reading.Reading.{Reading}
use Rattle.records.specs.declared.telegram.Telegram.{Telegram}
use Rattle.shows.proofs.Tallies.{count_by_cons, count_by_insert}
use Rattle.shows.specs.Calls.{Limits, State, Admits, Releases, Trades}
use Rattle.shows.specs.Histories.{admit, release, exchange}
use Rattle.shows.specs.declared.answer.Admission.{Admission}
use Rattle.shows.specs.declared.answer.Exchange.{Exchange}
use Rattle.shows.specs.declared.fault.ShowFault.{ShowFault}
use Rattle.panels.specs.declared.panel.fault.PanelFault.{PanelFault}
use Rattle.wire.specs.declared.commands.Command.{Command}
use Rattle.wire.specs.declared.lines.Line.{Line}
use Rattle.wire.specs.declared.lines.Line.TheVariants.{Heading}
use Rattle.runs.specs.Events.{Event, displaced_line, accepted_line, entry_lines, lines_of}
use Rattle.runs.specs.Readers.{no_telegram, picked, a_lines, d_lines, x_lines, held_of}
use Rattle.runs.specs.Runs.{Phase, held_in, offered, shown, Does, row_set, setting_refused, show_started, admit_called, release_called, exchange_called, show_closed, wrong_stage, reading_offered, figure_asked, Ran, at_first, and_then}

module _ (pick : ℕ → ℕ → Bool) where
  abbrev comes : Line → ℕ
  comes line = cond (picked pick no_telegram no_telegram line) 1 0

  abbrev leaves : Line → ℕ
  leaves line = cond (picked no_telegram pick no_telegram line) 1 0 + cond (picked no_telegram no_telegram pick line) 1 0

  -- from n that are there before the lines to m after them
  abbrev pub Carries : ℕ → List Line → ℕ → Type 0
  Carries n [] m = n ≡ m
  Carries n (x ∷ xs) m = (k : ℕ) × (n + comes x ≡ leaves x + k) × Carries k xs m

  pub carries_append : (n k m : ℕ) (xs ys : List Line) → Carries n xs k → Carries k ys m → Carries n (xs ++ ys) m
  carries_append n k m [] ys h more = subst (λ v. Carries v ys m) (sym h) more
  carries_append n k m (x ∷ xs) ys h more = (h.0, h.1, carries_append h.0 k m xs ys h.2 more)

  carries_front : (n m : ℕ) (front back : List Line) → Carries n (front ++ back) m → (k : ℕ) × Carries n front k
  carries_front n m [] back h = (n, refl)
  carries_front n m (x ∷ xs) back h = let rest = carries_front h.0 m xs back h.2 in (rest.0, (h.0, h.1, rest.1))

  pub balance : (n m : ℕ) (xs : List Line) → Carries n xs m → n + a_lines pick xs ≡ d_lines pick xs + x_lines pick xs + m
  balance n m [] h = omega (arith, h)
  balance n m (x ∷ xs) h =
      omega (arith, h.1, balance h.0 m xs h.2, count_by_cons (picked pick no_telegram no_telegram) x xs, count_by_cons (picked no_telegram pick no_telegram) x xs, count_by_cons (picked no_telegram no_telegram pick) x xs)

  pub front_balance : (n m : ℕ) (front back : List Line) → Carries n (front ++ back) m → d_lines pick front + x_lines pick front ≤ n + a_lines pick front
  front_balance n m front back h = let cut = carries_front n m front back h in omega (arith, balance n cut.0 front cut.1)

  -- ---- by what a command does

  brings : (t : Telegram) (held held' : List Telegram) → held' ≡ insert stands t held → held_of pick held' ≡ cond (pick t.number t.row) 1 0 + held_of pick held
  brings t held held' is = ap (held_of pick) is ∙ count_by_insert (λ u. pick u.number u.row) stands t held

  takes : (t : Telegram) (held held' : List Telegram) → held ≡ t ∷ held' → held_of pick held ≡ cond (pick t.number t.row) 1 0 + held_of pick held'
  takes t held held' is = ap (held_of pick) is ∙ count_by_cons (λ u. pick u.number u.row) t held'

  stays : (s s' : State) → s' ≡ s → held_of pick s.held ≡ held_of pick s'.held
  stays s s' is = ap (λ v. held_of pick v.held) (sym is)

  module _ (l : Limits) (s s' : State) (place at row bytes handle : ℕ) where
    admit_carries : (r : Result Admission ShowFault) → Admits l s at row bytes handle r s' → Carries (held_of pick s.held) (entry_lines place (admit at row bytes handle r)) (held_of pick s'.held)
    admit_carries (Ok a) h = entered a.displaced h.enters
      where
        entered : (d : Option Telegram) → Puts stands blank (λ h. h) (λ _. l.capacity) (λ _. l.slack) s.held a.telegram (Ok (put_of d)) s'.held
            → Carries (held_of pick s.held) (accepted_line a.telegram ∷ displaced_line d) (held_of pick s'.held)
        entered None e = (held_of pick s'.held, omega (arith, brings a.telegram s.held s'.held e.2), refl)
        entered (Some d) e =
            let out = e.2 in
            let was = brings d out.rest s.held out.was in
            let is = brings a.telegram out.rest s'.held out.is in
            (held_of pick s.held + cond (pick a.telegram.number a.telegram.row) 1 0, omega arith, (held_of pick s'.held, omega arith, refl))
    admit_carries (Err e) h = (held_of pick s.held, omega arith, stays s s' h.same)

    release_carries : (r : Result Telegram ShowFault) → Releases l s at r s' → Carries (held_of pick s.held) (entry_lines place (release at r)) (held_of pick s'.held)
    release_carries (Ok t) h = (held_of pick s'.held, omega (arith, takes t s.held s'.held h.leaves.0), refl)
    release_carries (Err e) h = (held_of pick s.held, omega arith, stays s s' h.same)

    exchange_carries : (r : Result Exchange ShowFault) → Trades l s at row bytes handle r s' → Carries (held_of pick s.held) (entry_lines place (exchange at row bytes handle r)) (held_of pick s'.held)
    exchange_carries (Ok a) h =
        let q = h.trades.1 in
        let was = takes a.departed s.held q.rest q.was in
        let is = brings a.telegram q.rest s'.held q.is in
        (held_of pick q.rest, omega arith, (held_of pick s'.held, omega arith, refl))
    exchange_carries (Err e) h = (held_of pick s.held, omega arith, stays s s' h.same)

  -- a line of another letter
  offered_carries : (n place : ℕ) (r : Result (Option Reading) PanelFault) → Carries n (lines_of (place, offered r)) n
  offered_carries n place (Ok x) = refl
  offered_carries n place (Err e) = (n, omega arith, refl)

  shown_carries : (n place : ℕ) (r : Result ℤ PanelFault) → Carries n (lines_of (place, shown r)) n
  shown_carries n place (Ok x) = (n, omega arith, refl)
  shown_carries n place (Err e) = (n, omega arith, refl)

  module _ (l pl : Limits) where
    does_carry : {phase phase' : Phase} {now now' : List Reading} {command : Command} {event : Event} (place : ℕ)
        → Does l pl phase now command event phase' now' → Carries (held_of pick (held_in phase)) (lines_of (place, event)) (held_of pick (held_in phase'))
    does_carry place (row_set none p b) = refl
    does_carry place (setting_refused {held = held} by) = (held_of pick held, omega arith, refl)
    does_carry place show_started = refl
    does_carry place (admit_called {s = s} {s' = s'} {at = at} {row = row} {length = bytes} {handle = handle} {r = r} step) = admit_carries l s s' place at row bytes handle r step
    does_carry place (release_called {s = s} {s' = s'} {at = at} {r = r} step) = release_carries l s s' place at 0 0 0 r step
    does_carry place (exchange_called {s = s} {s' = s'} {at = at} {row = row} {length = bytes} {handle = handle} {r = r} step) = exchange_carries l s s' place at row bytes handle r step
    does_carry place (show_closed {s = s}) = (held_of pick s.held, omega arith, refl)
    does_carry place (wrong_stage {phase = phase} unfit) = (held_of pick (held_in phase), omega arith, refl)
    does_carry place (reading_offered {phase = phase} x r p q t offers) = offered_carries (held_of pick (held_in phase)) place r
    does_carry place (figure_asked {phase = phase} r shows) = shown_carries (held_of pick (held_in phase)) place r

    -- a run carries what its queue held at first to what it holds
    pub ran_carries : {bytes : List ℕ} {held : List Telegram} {readings : List Reading} {place : ℕ} {phase : Phase} {now : List Reading} {events : List (ℕ × Event)}
        → Ran l pl bytes held readings place phase now events → Carries (held_of pick held) (Heading ∷ flat_map lines_of events) (held_of pick (held_in phase))
    ran_carries {held = held} at_first = (held_of pick held, omega arith, refl)
    ran_carries {held = held} (and_then {place = place} {phase = phase} {phase' = phase'} {events = events} {event = event} ran read does) =
        subst (λ v. Carries (held_of pick held) v (held_of pick (held_in phase'))) (flat_map_more lines_of (Heading ∷ []) events (place, event))
        (carries_append (held_of pick held) (held_of pick (held_in phase)) (held_of pick (held_in phase')) (Heading ∷ flat_map lines_of events) (lines_of (place, event)) (ran_carries ran) (does_carry place does))
