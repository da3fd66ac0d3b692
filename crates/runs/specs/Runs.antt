-- The run of a stream: what each command does in each stage of a show, and whole runs.
use Rattle.std.specs.Prelude.{◌≡◌, ℕ, ◌+◌, Bool, true, false, not, List, [], ◌∷◌, ◌++◌, drop, ℤ, Some, Ok, Err, Option, Result, nat_lt}
use Rattle.records.specs.declared.telegram.Telegram.{Telegram}
use Rattle.records.specs.declared.reading.Reading.{Reading}
use Rattle.shows.specs.Cards.{in_bounds}
use Rattle.shows.specs.Timing.{first_refusal}
use Rattle.shows.specs.Faults as show
use Rattle.shows.specs.Calls.{Limits, State, Admits, Releases, Trades}
use Rattle.shows.specs.Histories.{with_setting, unset_rows, fresh, admit, release, exchange}
use Rattle.shows.specs.Accounts.{report_of}
use Rattle.shows.specs.declared.card.RowCard.{RowCard}
use Rattle.shows.specs.declared.row.Row.{Row}
use Rattle.shows.specs.declared.answer.Admission.{Admission}
use Rattle.shows.specs.declared.answer.Exchange.{Exchange}
use Rattle.shows.specs.declared.fault.ShowFault.{ShowFault}
use Rattle.panels.specs.Panels.{Offers, Shows}
use Rattle.panels.specs.declared.panel.fault.PanelFault.{PanelFault}
use Rattle.wire.specs.Decoding.{read_of}
use Rattle.wire.specs.declared.commands.Found.{Found}
use Rattle.wire.specs.declared.commands.Command.{Command}
use Rattle.wire.specs.declared.commands.Command.TheVariants as commands
use Rattle.runs.specs.Events.{Event, sets, starts, calls, closes, offers, figures, refuses}
use Rattle.runs.specs.declared.fault.StreamFault.TheVariants.{Stage, Show, Panel}

-- how far a show has come: its rows so far and what its queue holds, its state, or its last state
pub data Phase : Type 0 where
  rigging : List Row → List Telegram → Phase
  running : State → Phase
  closed : State → Phase

-- what the queue of a show holds
abbrev pub held_in : Phase → List Telegram
held_in (rigging rows held) = held
held_in (running s) = s.held
held_in (closed s) = s.held

-- whether a show is rigged, and whether it runs
abbrev pub is_rigged : Phase → Bool
is_rigged (rigging rows held) = true
is_rigged (running s) = false
is_rigged (closed s) = false

abbrev pub is_running : Phase → Bool
is_running (rigging rows held) = false
is_running (running s) = true
is_running (closed s) = false

-- settings and the start suit a show that is rigged, the calls and the close one that runs, and the panel's commands any
abbrev pub suits : Phase → Command → Bool
suits phase (commands.SetRow row pace burst) = is_rigged phase
suits phase commands.Start = is_rigged phase
suits phase (commands.Admit at row length handle) = is_running phase
suits phase (commands.Release at) = is_running phase
suits phase (commands.Exchange at row length handle) = is_running phase
suits phase (commands.Reading row position target) = true
suits phase commands.Show = true
suits phase commands.Close = is_running phase

-- a setting tests the row before the card
abbrev pub set_refusal : ℕ → ℕ → ℕ → ℕ
set_refusal row pace burst = first_refusal ((not (nat_lt row 64), 2) ∷ (not (in_bounds pace burst), 10) ∷ [])

-- what a reading that was offered, and the question for a figure, come to
abbrev pub offered : Result (Option Reading) PanelFault → Event
offered (Ok left) = offers
offered (Err e) = refuses (Panel e)

abbrev pub shown : Result ℤ PanelFault → Event
shown (Ok n) = figures n
shown (Err e) = refuses (Panel e)

-- what a command does to a show and to the readings on a panel, by the limits of their queues
pub data Does (l pl : Limits) : Phase → List Reading → Command → Event → Phase → List Reading → Type 0 where
  row_set : {rows : List Row} {held : List Telegram} {readings : List Reading} {row pace burst : ℕ} {card : RowCard}
      → set_refusal row pace burst ≡ 0 → card.pace ≡ pace → card.burst ≡ burst
      → Does l pl (rigging rows held) readings (commands.SetRow row pace burst) (sets (record { row = row; card = card })) (rigging (with_setting rows (record { row = row; card = card })) held) readings
  setting_refused : {rows : List Row} {held : List Telegram} {readings : List Reading} {row pace burst : ℕ} {e : ShowFault}
      → show.number e ≡ set_refusal row pace burst
      → Does l pl (rigging rows held) readings (commands.SetRow row pace burst) (refuses (Show e)) (rigging rows held) readings
  show_started : {rows : List Row} {held : List Telegram} {readings : List Reading}
      → Does l pl (rigging rows held) readings commands.Start starts (running (fresh rows held)) readings
  admit_called : {s s' : State} {readings : List Reading} {at row length handle : ℕ} {r : Result Admission ShowFault}
      → Admits l s at row length handle r s'
      → Does l pl (running s) readings (commands.Admit at row length handle) (calls (admit at row length handle r)) (running s') readings
  release_called : {s s' : State} {readings : List Reading} {at : ℕ} {r : Result Telegram ShowFault}
      → Releases l s at r s'
      → Does l pl (running s) readings (commands.Release at) (calls (release at r)) (running s') readings
  exchange_called : {s s' : State} {readings : List Reading} {at row length handle : ℕ} {r : Result Exchange ShowFault}
      → Trades l s at row length handle r s'
      → Does l pl (running s) readings (commands.Exchange at row length handle) (calls (exchange at row length handle r)) (running s') readings
  show_closed : {s : State} {readings : List Reading}
      → Does l pl (running s) readings commands.Close (closes (report_of s)) (closed s) readings
  -- nothing changes
  wrong_stage : {phase : Phase} {readings : List Reading} {command : Command}
      → suits phase command ≡ false
      → Does l pl phase readings command (refuses Stage) phase readings
  reading_offered : {phase : Phase} {readings readings' : List Reading} {row : ℕ} {position target : ℤ} (x : Reading) (r : Result (Option Reading) PanelFault)
      → x.row ≡ row → x.position ≡ position → x.target ≡ target
      → Offers (λ h. h) (λ _. pl.capacity) (λ _. pl.slack) readings x r readings'
      → Does l pl phase readings (commands.Reading row position target) (offered r) phase readings'
  figure_asked : {phase : Phase} {readings readings' : List Reading} (r : Result ℤ PanelFault)
      → Shows (λ h. h) (λ _. pl.capacity) (λ _. pl.slack) readings r readings'
      → Does l pl phase readings commands.Show (shown r) phase readings'

-- Commands run one after another from the first byte, over queues that hold `held` and `readings` at first: the place that was reached, what show and panel came to, and what was done at which place
pub data Ran (l pl : Limits) (bytes : List ℕ) (held : List Telegram) (readings : List Reading) : ℕ → Phase → List Reading → List (ℕ × Event) → Type 0 where
  at_first : Ran l pl bytes held readings 0 (rigging unset_rows held) readings []
  and_then : {place : ℕ} {phase phase' : Phase} {now now' : List Reading} {events : List (ℕ × Event)} {f : Found} {event : Event}
      → Ran l pl bytes held readings place phase now events
      → read_of (drop place bytes) ≡ Ok (Some f)
      → Does l pl phase now f.command event phase' now'
      → Ran l pl bytes held readings (place + f.taken) phase' now' (events ++ ((place, event) ∷ []))
