-- Every list is readable: the law of its lines.
use Rattle.std.proofs.Common.{◌≡◌, ℕ, ◌≤◌, Bool, List, [], ◌∷◌, ◌++◌, length, sym, refl, ap, ◌∙◌, subst, append-nil, arith}
use Rattle.std.specs.List.{flat_map, ContainsAt as Has, AllByRecursion as All}
use Rattle.std.proofs.ByRecursion.{all-has, all_has_itself, All-weaker}
use Rattle.std.proofs.lemmas.List.{flat_map_more}
use Rattle.records.specs.declared.reading.Reading.{Reading}
use Rattle.records.specs.declared.telegram.Telegram.{Telegram}
use Rattle.shows.proofs.Accounting.{balanced}
use Rattle.shows.proofs.Departing.{departs_late_enough}
use Rattle.shows.proofs.Ledger.{Numbered}
use Rattle.shows.proofs.Tallies.{number_once, numbered as history-numbered}
use Rattle.shows.specs.Calls.{Limits}
use Rattle.shows.specs.Histories.{Setting, Entry, Departure, accepted_in, departures_in, departed_in, displaced_in}
use Rattle.wire.specs.declared.lines.Line.{Line}
use Rattle.wire.specs.declared.lines.Line.TheVariants.{Heading, Accepted, Departed, Totals}
use Rattle.runs.specs.Events.{Event, refuses, refused_line, lines_of, entries_by, reports_by, settings_in, entries_in, reports_in}
use Rattle.runs.specs.Lists.{longest, Stops, through, faulted, Led, reported, Lists, too_long, played, RunsAccount}
use Rattle.runs.specs.Readers.{any_telegram, numbered, held_of, Readable}
use Rattle.runs.specs.Runs.{Phase, rigging, running, closed, held_in, Ran}
use Rattle.runs.specs.declared.fault.StreamFault.{StreamFault}
use Rattle.runs.specs.declared.fault.StreamFault.TheVariants.{Long, Wire}
use Rattle.runs.proofs.Balance.{Carries, carries_append, balance, front_balance, ran_carries}
use Rattle.runs.proofs.Leading.{ran_led, ran_reports, led_accounts}
use Rattle.runs.proofs.Telling.{held_any, a_told, d_told, x_told, Says, lines_say}

-- ---- what the history of a phase says
module _ (l : Limits) (settings : List Setting) (es : List Entry) where
  led_numbered : (phase : Phase) → Led l phase settings es → Numbered 0 (accepted_in es)
  led_numbered (rigging rows held) h = subst (λ v. Numbered 0 (accepted_in v)) (sym h.1) tt
  led_numbered (running s) h = history-numbered l settings h
  led_numbered (closed s) h = history-numbered l settings h

  abbrev LateEnough : Departure → Type 0
  LateEnough d = (u : Telegram) → Has (accepted_in es) u → u.number ≡ d.telegram.number → u.release ≤ d.time

  led_late : (phase : Phase) → Led l phase settings es → All LateEnough (departures_in es)
  led_late (rigging rows held) h = subst (λ v. All LateEnough (departures_in v)) (sym h.1) tt
  led_late (running s) h = departs_late_enough l settings es s h
  led_late (closed s) h = departs_late_enough l settings es s h

  -- a report bears the numbers of the telegrams
  abbrev Right : List Telegram → (accepted departed displaced held : ℕ) → Type 0
  Right held a d x n = (a ≡ length (accepted_in es)) × (d ≡ length (departed_in es)) × (x ≡ length (displaced_in es)) × (n ≡ length held)

  led_reports : (phase : Phase) → Led l phase settings es → All (λ r. Right (held_in phase) r.accepted r.departed r.displaced r.held) (reported phase)
  led_reports (rigging rows held) h = tt
  led_reports (running s) h = tt
  led_reports (closed s) h = let b = balanced l settings es s h in ((b.accepted, b.departed, b.displaced, b.held_count), tt)

module _ (l pl : Limits) {bytes : List ℕ} {held : List Telegram} {readings : List Reading} {place : ℕ} {phase : Phase} {now : List Reading} {events : List (ℕ × Event)} (none : held ≡ []) (ran : Ran l pl bytes held readings place phase now events) where
  -- ---- the last refusal is no call and no report, and carries nothing
  last_entries : {last : List (ℕ × Event)} → Stops bytes place last → entries_in (events ++ last) ≡ entries_in events
  last_entries (through end) = ap entries_in (append-nil events)
  last_entries (faulted {e = e} bad) = sym (flat_map_more (λ x. entries_by x.1) [] events (place, refuses (Wire e))) ∙ append-nil (entries_in events)

  last_reports : {last : List (ℕ × Event)} → Stops bytes place last → reports_in (events ++ last) ≡ reports_in events
  last_reports (through end) = ap reports_in (append-nil events)
  last_reports (faulted {e = e} bad) = sym (flat_map_more (λ x. reports_by x.1) [] events (place, refuses (Wire e))) ∙ append-nil (reports_in events)

  last_carries : (pick : ℕ → ℕ → Bool) {last : List (ℕ × Event)} → Stops bytes place last → Carries pick (held_of pick held) (Heading ∷ flat_map lines_of (events ++ last)) (held_of pick (held_in phase))
  last_carries pick (through end) = subst (λ v. Carries pick (held_of pick held) (Heading ∷ flat_map lines_of v) (held_of pick (held_in phase))) (sym (append-nil events)) (ran_carries pick l pl ran)
  last_carries pick (faulted {e = e} bad) =
      let n = held_of pick (held_in phase) in
      subst (λ v. Carries pick (held_of pick held) v n) (flat_map_more lines_of (Heading ∷ []) events (place, refuses (Wire e)))
      (carries_append pick (held_of pick held) n n (Heading ∷ flat_map lines_of events) (lines_of (place, refuses (Wire e))) (ran_carries pick l pl ran) (n, omega arith, refl))

  module _ (last : List (ℕ × Event)) (stops : Stops bytes place last) where
    abbrev lines : List Line
    lines = Heading ∷ flat_map lines_of (events ++ last)

    abbrev es : List Entry
    es = entries_in (events ++ last)

    led : Led l phase (settings_in events) es
    led = subst (Led l phase (settings_in events)) (sym (last_entries stops)) (ran_led l pl none ran)

    abbrev Said : Line → Type 0
    Said = Says (λ n row due. (u : Telegram) × Has (accepted_in es) u × (u.number ≡ n) × (u.release ≡ due)) (λ n row time. (u : Telegram) → Has (accepted_in es) u → u.number ≡ n → u.release ≤ time) (Right l (settings_in events) es (held_in phase))

    said : All Said lines
    said =
        let accepts = All-weaker (Has (accepted_in es)) (λ t. (u : Telegram) × Has (accepted_in es) u × (u.number ≡ t.number) × (u.release ≡ t.release)) (λ t h. (t, h, refl, refl)) (accepted_in es) (all_has_itself (accepted_in es)) in
        let reports = subst (All (λ r. Right l (settings_in events) es (held_in phase) r.accepted r.departed r.displaced r.held)) (sym (last_reports stops ∙ ran_reports l pl ran)) (led_reports l (settings_in events) es phase led) in
        (tt, lines_say _ _ _ (events ++ last) accepts (led_late l (settings_in events) es phase led) reports)

    pub readable : Readable lines (held_in phase)
    readable = record {
      answered = λ pick. omega (arith, balance pick (held_of pick held) (held_of pick (held_in phase)) lines (last_carries pick stops), ap (held_of pick) none);
      once = λ n. omega (arith, a_told (numbered n) (events ++ last), number_once n 0 (accepted_in es) (led_numbered l (settings_in events) es phase led));
      accepted_first = λ pick front back cut. omega (arith, front_balance pick (held_of pick held) (held_of pick (held_in phase)) front back (subst (λ v. Carries pick (held_of pick held) v (held_of pick (held_in phase))) cut (last_carries pick stops)), ap (held_of pick) none);
      totals = λ a d x n there.
          let right = all-has Said lines (Totals a d x n) said there in
          (right.0 ∙ sym (a_told any_telegram (events ++ last) ∙ held_any (accepted_in es)), right.1 ∙ sym (d_told any_telegram (events ++ last) ∙ held_any (departed_in es)), right.2 ∙ sym (x_told any_telegram (events ++ last) ∙ held_any (displaced_in es)), right.3);
      on_time = λ n row row' due time accepts departs.
          let was = all-has Said lines (Accepted n row due) said accepts in
          let left = all-has Said lines (Departed n row' time) said departs in
          omega (arith, left was.0 was.1 was.2, was.3);
    }

-- a list of one refusal says nothing of telegrams
module _ (place : ℕ) (e : StreamFault) where
  abbrev one_refusal : List Line
  one_refusal = Heading ∷ refused_line place e

  abbrev Silent : Line → Type 0
  Silent = Says (λ n row due. ⊥) (λ n row time. ⊥) (λ a d x n. ⊥)

  refusal_readable : Readable one_refusal []
  refusal_readable = record {
    answered = λ pick. omega arith;
    once = λ n. omega arith;
    accepted_first = λ pick front back cut. omega (arith, front_balance pick 0 0 front back (subst (λ v. Carries pick 0 v 0) cut (0, refl, (0, refl, refl))));
    totals = λ a d x n there. absurd (all-has Silent one_refusal (Totals a d x n) (tt, (tt, tt)) there);
    on_time = λ n row row' due time accepts departs. absurd (all-has Silent one_refusal (Accepted n row due) (tt, (tt, tt)) accepts);
  }

-- a reader can rely on every list over an empty queue
pub lists_readable : {l pl : Limits} {bytes : List ℕ} {held : List Telegram} {readings : List Reading} {lines : List Line} {held' : List Telegram} {readings' : List Reading} → held ≡ [] → Lists l pl bytes held readings lines held' readings' → Readable lines held'
lists_readable {lines = lines} none (too_long long listed same-held same-readings) = subst (Readable lines) (sym (same-held ∙ none)) (subst (λ v. Readable v []) (sym listed) (refusal_readable longest Long))
lists_readable none (played short all) = all.readable none

pub runs_account : RunsAccount
runs_account l pl bytes readings readings' place phase events last ran stops = (led_accounts l phase (settings_in events) (entries_in events) (ran_led l pl refl ran), readable l pl refl ran last stops)
