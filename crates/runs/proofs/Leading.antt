-- Every run tells the history of its show.
use Rattle.std.proofs.Common.{◌≡◌, ℕ, List, [], ◌∷◌, ◌++◌, ℤ, Ok, Err, Option, Result, sym, refl, ap, ◌∙◌, subst, append-nil}
use Rattle.std.proofs.lemmas.List.{flat_map_more}
use Rattle.records.specs.declared.telegram.Telegram.{Telegram}
use Rattle.records.specs.declared.reading.Reading.{Reading}
use Rattle.shows.proofs.Accounting.{accounts_hold}
use Rattle.shows.proofs.Growing.{settings_push, steps_push}
use Rattle.shows.specs.Accounts.{report_of}
use Rattle.shows.specs.Calls.{Limits, State}
use Rattle.shows.specs.Histories.{Setting, Entry, Step, Steps, done, with_setting, with_settings, unset_rows, started, admit, release, exchange, fresh}
use Rattle.shows.specs.declared.answer.Report.{Report}
use Rattle.shows.specs.declared.row.Row.{Row}
use Rattle.panels.specs.declared.panel.fault.PanelFault.{PanelFault}
use Rattle.wire.specs.declared.commands.Command.{Command}
use Rattle.runs.specs.Events.{Event, starts, closes, refuses, settings_by, entries_by, reports_by, settings_in, entries_in, reports_in}
use Rattle.runs.specs.declared.fault.StreamFault.TheVariants.{Stage}
use Rattle.runs.specs.Lists.{Led, Accounted, reported}
use Rattle.runs.specs.Runs.{Phase, rigging, running, closed, offered, shown, Does, row_set, setting_refused, show_started, admit_called, release_called, exchange_called, show_closed, wrong_stage, reading_offered, figure_asked, Ran, at_first, and_then}

module _ (l : Limits) where
  moved : (phase : Phase) (ss ss' : List Setting) (es es' : List Entry) → ss ≡ ss' → es ≡ es' → Led l phase ss es → Led l phase ss' es'
  moved phase ss ss' es es' p q h = subst (λ v. Led l phase ss' v) q (subst (λ v. Led l phase v es) p h)

  -- an event that is no setting and no call leaves both as they are
  same : (phase : Phase) (ss : List Setting) (es : List Entry) (event : Event) → settings_by event ≡ [] → entries_by event ≡ [] → Led l phase ss es → Led l phase (ss ++ settings_by event) (es ++ entries_by event)
  same phase ss es event p q = moved phase ss (ss ++ settings_by event) es (es ++ entries_by event) (sym (ap (λ v. ss ++ v) p ∙ append-nil ss)) (sym (ap (λ v. es ++ v) q ∙ append-nil es))

  start_led : (rows : List Row) (held : List Telegram) (ss : List Setting) (es : List Entry) → Led l (rigging rows held) ss es → Led l (running (fresh rows held)) ss es
  start_led rows held ss es h =
      let is : started ss ≡ fresh rows held = λ i. fresh (sym h.0 i) (sym h.2 i) in
      subst (λ v. Steps l (started ss) v (fresh rows held)) (sym h.1) (subst (λ s. Steps l (started ss) [] s) is done)

  called : (s s' : State) (ss : List Setting) (es : List Entry) (e : Entry) → Step l s e s' → Led l (running s) ss es → Led l (running s') (ss ++ []) (es ++ (e ∷ []))
  called s s' ss es e step h = moved (running s') ss (ss ++ []) (es ++ (e ∷ [])) (es ++ (e ∷ [])) (sym (append-nil ss)) refl (steps_push l e s' h step)

  offered_sets : (r : Result (Option Reading) PanelFault) → settings_by (offered r) ≡ []
  offered_sets (Ok x) = refl
  offered_sets (Err e) = refl

  offered_calls : (r : Result (Option Reading) PanelFault) → entries_by (offered r) ≡ []
  offered_calls (Ok x) = refl
  offered_calls (Err e) = refl

  shown_sets : (r : Result ℤ PanelFault) → settings_by (shown r) ≡ []
  shown_sets (Ok x) = refl
  shown_sets (Err e) = refl

  shown_calls : (r : Result ℤ PanelFault) → entries_by (shown r) ≡ []
  shown_calls (Ok x) = refl
  shown_calls (Err e) = refl

  module _ (pl : Limits) where
    led : {phase phase' : Phase} {now now' : List Reading} {command : Command} {event : Event} (ss : List Setting) (es : List Entry)
        → Does l pl phase now command event phase' now' → Led l phase ss es → Led l phase' (ss ++ settings_by event) (es ++ entries_by event)
    led ss es (row_set {rows = rows} {row = row} {card = card} none p b) h =
        (ap (λ v. with_setting v (record { row = row; card = card })) h.0 ∙ sym (settings_push unset_rows ss (record { row = row; card = card })), append-nil es ∙ h.1, h.2)
    led ss es (setting_refused {rows = rows} {held = held} {e = e} by) h = (h.0 ∙ ap (with_settings unset_rows) (sym (append-nil ss)), append-nil es ∙ h.1, h.2)
    led ss es (show_started {rows = rows} {held = held}) h = same (running (fresh rows held)) ss es starts refl refl (start_led rows held ss es h)
    led ss es (admit_called {s = s} {s' = s'} {r = r} step) h = called s s' ss es (admit _ _ _ _ r) step h
    led ss es (release_called {s = s} {s' = s'} {r = r} step) h = called s s' ss es (release _ r) step h
    led ss es (exchange_called {s = s} {s' = s'} {r = r} step) h = called s s' ss es (exchange _ _ _ _ r) step h
    led ss es (show_closed {s = s}) h = same (closed s) ss es (closes (report_of s)) refl refl h
    led ss es (wrong_stage {phase = phase} no-fit) h = same phase ss es (refuses Stage) refl refl h
    led ss es (reading_offered {phase = phase} x r p q t offers) h = same phase ss es (offered r) (offered_sets r) (offered_calls r) h
    led ss es (figure_asked {phase = phase} r shows) h = same phase ss es (shown r) (shown_sets r) (shown_calls r) h

    pub ran_led : {bytes : List ℕ} {held : List Telegram} {readings : List Reading} {place : ℕ} {phase : Phase} {now : List Reading} {events : List (ℕ × Event)}
        → held ≡ [] → Ran l pl bytes held readings place phase now events → Led l phase (settings_in events) (entries_in events)
    ran_led none at_first = (refl, refl, none)
    ran_led none (and_then {place = place} {phase' = phase'} {events = events} {event = event} ran read does) =
        moved phase' _ _ _ _ (flat_map_more (λ x. settings_by x.1) [] events (place, event)) (flat_map_more (λ x. entries_by x.1) [] events (place, event)) (led (settings_in events) (entries_in events) does (ran_led none ran))

  pub led_accounts : (phase : Phase) (ss : List Setting) (es : List Entry) → Led l phase ss es → Accounted l phase ss es
  led_accounts (rigging rows held) ss es h = (h.1, h.2)
  led_accounts (running s) ss es h = accounts_hold l ss es s h
  led_accounts (closed s) ss es h = accounts_hold l ss es s h

  offered_reports : (r : Result (Option Reading) PanelFault) → reports_by (offered r) ≡ []
  offered_reports (Ok x) = refl
  offered_reports (Err e) = refl

  shown_reports : (r : Result ℤ PanelFault) → reports_by (shown r) ≡ []
  shown_reports (Ok x) = refl
  shown_reports (Err e) = refl

  module _ (pl : Limits) where
    one_report : {phase phase' : Phase} {now now' : List Reading} {command : Command} {event : Event} (rs : List Report)
        → Does l pl phase now command event phase' now' → rs ≡ reported phase → rs ++ reports_by event ≡ reported phase'
    one_report rs (row_set none p b) h = append-nil rs ∙ h
    one_report rs (setting_refused by) h = append-nil rs ∙ h
    one_report rs show_started h = append-nil rs ∙ h
    one_report rs (admit_called step) h = append-nil rs ∙ h
    one_report rs (release_called step) h = append-nil rs ∙ h
    one_report rs (exchange_called step) h = append-nil rs ∙ h
    one_report rs (show_closed {s = s}) h = ap (λ v. v ++ (report_of s ∷ [])) h
    one_report rs (wrong_stage unfit) h = append-nil rs ∙ h
    one_report rs (reading_offered x r p q t offers) h = ap (λ v. rs ++ v) (offered_reports r) ∙ append-nil rs ∙ h
    one_report rs (figure_asked r shows) h = ap (λ v. rs ++ v) (shown_reports r) ∙ append-nil rs ∙ h

    pub ran_reports : {bytes : List ℕ} {held : List Telegram} {readings : List Reading} {place : ℕ} {phase : Phase} {now : List Reading} {events : List (ℕ × Event)}
        → Ran l pl bytes held readings place phase now events → reports_in events ≡ reported phase
    ran_reports at_first = refl
    ran_reports (and_then {place = place} {events = events} {event = event} ran read does) =
        sym (flat_map_more (λ x. reports_by x.1) [] events (place, event)) ∙ one_report (reports_in events) does (ran_reports ran)
