-- What a stream causes, command by command, and the lines that it prints.
use Rattle.std.specs.Prelude.{ℕ, List, [], ◌∷◌, ℤ, Some, None, Ok, Err, Option}
use Rattle.std.specs.List.{flat_map}
use Rattle.records.specs.declared.telegram.Telegram.{Telegram}
use Rattle.shows.specs.Histories.{Setting, Entry, admit, release, exchange, forecast}
use Rattle.shows.specs.declared.answer.Report.{Report}
use Rattle.wire.specs.declared.lines.Line.{Line}
use Rattle.wire.specs.declared.lines.Line.TheVariants.{Accepted, Displaced, Departed, Figure, Totals, Refused}
use Rattle.runs.specs.Faults.{number, layer}
use Rattle.runs.specs.declared.fault.StreamFault.{StreamFault}
use Rattle.runs.specs.declared.fault.StreamFault.TheVariants.{Show}

-- what one command did
pub data Event : Type 0 where
  -- a row was set
  sets : Setting → Event
  -- the show started
  starts : Event
  -- the show was called, and answered
  calls : Entry → Event
  -- the show was closed with a report
  closes : Report → Event
  -- the panel took a reading
  offers : Event
  -- the panel showed a figure
  figures : ℤ → Event
  -- the command was refused, and changed nothing: not a call of the running show
  refuses : StreamFault → Event

-- ---- the lines of an event at the byte place of its command

-- R: the number of the refusal, its layer and the place
abbrev pub refused_line : ℕ → StreamFault → List Line
refused_line place e = Refused (number e) (layer e) place ∷ []

-- X: the telegram that was displaced, where there is one
abbrev pub displaced_line : Option Telegram → List Line
displaced_line None = []
displaced_line (Some d) = Displaced d.number d.row ∷ []

-- A: the accepted telegram
abbrev pub accepted_line : Telegram → Line
accepted_line t = Accepted t.number t.row t.release

-- an admit that displaces prints A, then X; an exchange prints D, then A
abbrev pub entry_lines : ℕ → Entry → List Line
entry_lines place (admit now row bytes handle (Ok a)) = accepted_line a.telegram ∷ displaced_line a.displaced
entry_lines place (admit now row bytes handle (Err e)) = refused_line place (Show e)
entry_lines place (release now (Ok t)) = Departed t.number t.row now ∷ []
entry_lines place (release now (Err e)) = refused_line place (Show e)
entry_lines place (exchange now row bytes handle (Ok a)) = Departed a.departed.number a.departed.row now ∷ accepted_line a.telegram ∷ []
entry_lines place (exchange now row bytes handle (Err e)) = refused_line place (Show e)
entry_lines place (forecast now row lengths times answer times') = []

-- T: the report of a show that was closed
abbrev pub totals_line : Report → Line
totals_line r = Totals r.accepted r.departed r.displaced r.held

-- accepted settings, starts and readings print nothing
abbrev pub lines_of : ℕ × Event → List Line
lines_of (place, sets x) = []
lines_of (place, starts) = []
lines_of (place, calls e) = entry_lines place e
lines_of (place, closes r) = totals_line r ∷ []
lines_of (place, offers) = []
lines_of (place, figures n) = Figure n ∷ []
lines_of (place, refuses e) = refused_line place e

-- ---- the settings, the calls and the reports among events

-- the setting that an event is
abbrev pub settings_by : Event → List Setting
settings_by (sets x) = x ∷ []
settings_by starts = []
settings_by (calls e) = []
settings_by (closes r) = []
settings_by offers = []
settings_by (figures n) = []
settings_by (refuses e) = []

-- the call that an event is
abbrev pub entries_by : Event → List Entry
entries_by (sets x) = []
entries_by starts = []
entries_by (calls e) = e ∷ []
entries_by (closes r) = []
entries_by offers = []
entries_by (figures n) = []
entries_by (refuses e) = []

-- the report that an event is
abbrev pub reports_by : Event → List Report
reports_by (sets x) = []
reports_by starts = []
reports_by (calls e) = []
reports_by (closes r) = r ∷ []
reports_by offers = []
reports_by (figures n) = []
reports_by (refuses e) = []

-- in the sequence of the commands
abbrev pub settings_in : List (ℕ × Event) → List Setting
settings_in xs = flat_map (λ x. settings_by x.1) xs

abbrev pub entries_in : List (ℕ × Event) → List Entry
entries_in xs = flat_map (λ x. entries_by x.1) xs

abbrev pub reports_in : List (ℕ × Event) → List Report
reports_in xs = flat_map (λ x. reports_by x.1) xs
