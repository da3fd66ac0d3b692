-- A setting extends the settings before it, and a start begins a history.
use Rattle.std.proofs.Common.{◌≡◌, ℕ, List, [], ◌∷◌, ◌++◌, sym, ap, ◌∙◌, subst}
use Rattle.records.specs.declared.telegram.Telegram.{Telegram}
use Rattle.shows.specs.Histories.{Setting, with_setting, with_settings, unset_rows, started, History}
use Rattle.shows.specs.declared.row.Row.{Row}
use Rattle.shows.proofs.Growing.{settings_push, history_started}
use Rattle.cabinet.specs.States.{state_of, limits_of, begun}
use Rattle.cabinet.specs.declared.running.RunningShow.{RunningShow}

pub sets : (before after : List Row) (x : Setting) → after ≡ with_setting before x → (settings : List Setting) → before ≡ with_settings unset_rows settings → after ≡ with_settings unset_rows (settings ++ x ∷ [])
sets before after x is settings h = is ∙ ap (λ rows. with_setting rows x) h ∙ sym (settings_push unset_rows settings x)

pub starts : {Q : Type 0} (held : Q → List Telegram) (room slack : Q → ℕ) (rows : List Row) (q : Q) (show : RunningShow Q) → show ≡ begun rows q → (settings : List Setting) → rows ≡ with_settings unset_rows settings → held q ≡ [] → History (limits_of room slack show) settings [] (state_of held show)
starts held room slack rows q show is settings r h =
    let same : started settings ≡ state_of held show
    = sym (ap (state_of held) is ∙ (λ i. record { clock = 0; accepted = 0; departed = 0; displaced = 0; rows = r i; held = h i })) in
    subst (History (limits_of room slack show) settings []) same (history_started (limits_of room slack show) settings)
