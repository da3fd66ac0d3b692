-- One command was done, and its lines are printed.
use Rattle.std.proofs.Common.{◌≡◌, ℕ, false, List, ℤ, Ok, Err, Option, Result, sym, refl, ap, subst}
use Rattle.std.specs.Result.{IsErrAnd}
use Rattle.records.specs.declared.reading.Reading.{Reading}
use Rattle.records.specs.declared.telegram.Telegram.{Telegram}
use Rattle.shows.specs.Calls.{Limits}
use Rattle.shows.specs.Faults.{number}
use Rattle.shows.specs.Histories.{with_setting}
use Rattle.shows.specs.declared.card.RowCard.{RowCard}
use Rattle.shows.specs.declared.fault.ShowFault.{ShowFault}
use Rattle.panels.specs.Panels.{Offers, Shows}
use Rattle.panels.specs.declared.panel.fault.PanelFault.{PanelFault}
use Rattle.cabinet.specs.declared.rigged.RiggedShow.{RiggedShow}
use Rattle.wire.specs.declared.commands.Command.{Command}
use Rattle.wire.specs.declared.commands.Command.TheVariants as commands
use Rattle.runs.specs.Events.{sets, refuses, lines_of, refused_line}
use Rattle.runs.specs.Runs.{Phase, rigging, set_refusal, row_set, setting_refused, suits, wrong_stage, offered, shown, reading_offered, figure_asked}
use Rattle.runs.specs.declared.fault.StreamFault.{StreamFault}
use Rattle.runs.specs.declared.fault.StreamFault.TheVariants.{Stage, Show}
use Rattle.runs.proofs.Panels.{offers_over, shows_over}
use Rattle.streams.specs.Printing.{lines_at}
use Rattle.streams.specs.Stages.{limits_at, rigging_of, Did}
use Rattle.streams.specs.declared.printed.Printed.{Printed}
use Rattle.streams.specs.declared.printed.Printed.TheVariants.{Nothing}

-- the line of a fault that was turned into another layer's
pub refused_as : (e : StreamFault) (answer : Result Printed StreamFault) → IsErrAnd answer (λ f. f ≡ e) → (place : ℕ) → lines_at place answer ≡ refused_line place e
refused_as e (Err f) is place = ap (refused_line place) is
refused_as e (Ok x) is place = absurd is

-- it does not suit the stage
pub unsuited_did : (l pl : Limits) (phase : Phase) (readings : List Reading) (command : Command) → suits phase command ≡ false → Did l pl phase readings command (Err Stage) phase readings
unsuited_did l pl phase readings command unfit = record { event = refuses Stage; does = wrong_stage unfit; prints = λ place. refl }

-- a row is set, or the setting is refused
module _ (row pace burst : ℕ) {Q : Type 0} (held : Q → List Telegram) (s : RiggedShow Q) where
  pub set_did : (s' : RiggedShow Q) (card : RowCard) → set_refusal row pace burst ≡ 0 → card.pace ≡ pace → card.burst ≡ burst
      → s'.rows ≡ with_setting s.rows (record { row = row; card = card }) → s'.queue ≡ s.queue
      → (l pl : Limits) (readings : List Reading) → Did l pl (rigging_of held s) readings (commands.SetRow row pace burst) (Ok Nothing) (rigging_of held s') readings
  set_did s' card none p b rows queue l pl readings =
      let P : Phase → Type 0 = λ phase. Did l pl (rigging_of held s) readings (commands.SetRow row pace burst) (Ok Nothing) phase readings in
      let is : rigging_of held s' ≡ rigging (with_setting s.rows (record { row = row; card = card })) (held s.queue) = λ i. rigging (rows i) (held (queue i)) in
      subst P (sym is) (record { event = sets (record { row = row; card = card }); does = row_set none p b; prints = λ place. refl })

  pub set_refused : (e : ShowFault) (answer : Result Printed StreamFault) → number e ≡ set_refusal row pace burst → ((place : ℕ) → lines_at place answer ≡ refused_line place (Show e))
      → (l pl : Limits) (readings : List Reading) → Did l pl (rigging_of held s) readings (commands.SetRow row pace burst) answer (rigging_of held s) readings
  set_refused e answer by prints l pl readings = record { event = refuses (Show e); does = setting_refused by; prints = prints }

-- a reading is offered, or a figure asked for
module _ {Q : Type 0} (held : Q → List Reading) (room slack : Q → ℕ) (q q' : Q) (answer : Result Printed StreamFault) where
  pub offer_did : (x : Reading) (r : Result (Option Reading) PanelFault) → Offers held room slack q x r q' → ((place : ℕ) → lines_at place answer ≡ lines_of (place, offered r))
      → (l : Limits) (phase : Phase) → Did l (limits_at room slack q) phase (held q) (commands.Reading x.row x.position x.target) answer phase (held q')
  offer_did x r t prints l phase = record { event = offered r; does = reading_offered x r refl refl refl (offers_over held room slack q q' x r t); prints = prints }

  pub show_did : (r : Result ℤ PanelFault) → Shows held room slack q r q' → ((place : ℕ) → lines_at place answer ≡ lines_of (place, shown r))
      → (l : Limits) (phase : Phase) → Did l (limits_at room slack q) phase (held q) commands.Show answer phase (held q')
  show_did r t prints l phase = record { event = shown r; does = figure_asked r (shows_over held room slack q q' r t); prints = prints }
