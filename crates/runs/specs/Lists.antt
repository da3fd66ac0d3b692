-- The release list of a stream, and the history that it tells.
use Rattle.std.specs.Prelude.{◌≡◌, ℕ, ◌<◌, ◌≤◌, List, [], ◌∷◌, ◌++◌, length, drop, None, Ok, Err}
use Rattle.std.specs.List.{flat_map}
use Rattle.records.specs.declared.telegram.Telegram.{Telegram}
use Rattle.records.specs.declared.reading.Reading.{Reading}
use Rattle.shows.specs.Accounts.{Accounts, report_of}
use Rattle.shows.specs.Calls.{Limits}
use Rattle.shows.specs.Histories.{Setting, Entry, with_settings, unset_rows, History}
use Rattle.shows.specs.declared.answer.Report.{Report}
use Rattle.wire.specs.Decoding.{read_of}
use Rattle.buffers.specs.declared.faults.WireFault.{WireFault}
use Rattle.wire.specs.declared.lines.Line.{Line}
use Rattle.wire.specs.declared.lines.Line.TheVariants.{Heading}
use Rattle.runs.specs.Events.{Event, refuses, refused_line, lines_of, settings_in, entries_in, reports_in}
use Rattle.runs.specs.Readers.{Readable}
use Rattle.runs.specs.Runs.{Phase, rigging, running, closed, held_in, Ran}
use Rattle.runs.specs.declared.fault.StreamFault.TheVariants.{Long, Wire}

-- bytes that a stream may have
abbrev pub longest : ℕ
longest = 65536

-- a run came to a place, and the list has its heading and its lines
pub record Reached (l pl : Limits) (bytes : List ℕ) (held : List Telegram) (readings : List Reading) (place : ℕ) (phase : Phase) (readings' : List Reading) (lines : List Line) : Type 0 where
  pub events : List (ℕ × Event)
  pub ran : Ran l pl bytes held readings place phase readings' events
  pub listed : lines ≡ Heading ∷ flat_map lines_of events

-- a run stops at the end of the bytes, or with one last refusal where they are no command
pub data Stops (bytes : List ℕ) (place : ℕ) : List (ℕ × Event) → Type 0 where
  through : read_of (drop place bytes) ≡ Ok None → Stops bytes place []
  faulted : {e : WireFault} → read_of (drop place bytes) ≡ Err e → Stops bytes place ((place, refuses (Wire e)) ∷ [])

-- settings and calls led a show from its making to its phase
abbrev pub Led : Limits → Phase → List Setting → List Entry → Type 0
Led l (rigging rows held) settings es = (rows ≡ with_settings unset_rows settings) × (es ≡ []) × (held ≡ [])
Led l (running s) settings es = History l settings es s
Led l (closed s) settings es = History l settings es s

-- the whole law of a show that was started, and of what it would report in its last state, or did report where it was closed; of a show that was not started, that it was not called and holds nothing
abbrev pub Accounted : Limits → Phase → List Setting → List Entry → Type 0
Accounted l (rigging rows held) settings es = (es ≡ []) × (held ≡ [])
Accounted l (running s) settings es = Accounts l settings es s (report_of s)
Accounted l (closed s) settings es = Accounts l settings es s (report_of s)

-- a show that was closed by a command has reported its last state, just once; no other has reported
abbrev pub reported : Phase → List Report
reported (rigging rows held) = []
reported (running s) = []
reported (closed s) = report_of s ∷ []

-- A stream was run to its end over queues that held `held` and `readings`: its list, and what the queues hold then. Over an empty queue the events tell the history of the show, the whole law holds of it, and a reader can rely on the lines.
pub record Played (l pl : Limits) (bytes : List ℕ) (held : List Telegram) (readings : List Reading) (lines : List Line) (held' : List Telegram) (readings' : List Reading) : Type 0 where
  pub place : ℕ
  pub phase : Phase
  pub events : List (ℕ × Event)
  pub last : List (ℕ × Event)
  pub ran : Ran l pl bytes held readings place phase readings' events
  pub stops : Stops bytes place last
  pub listed : lines ≡ Heading ∷ flat_map lines_of (events ++ last)
  pub holds : held' ≡ held_in phase
  pub reports : reports_in events ≡ reported phase
  pub history : held ≡ [] → Led l phase (settings_in events) (entries_in events)
  pub accounts : held ≡ [] → Accounted l phase (settings_in events) (entries_in events)
  pub readable : held ≡ [] → Readable lines held'

-- a stream that is too long is refused before anything is read
pub data Lists (l pl : Limits) (bytes : List ℕ) (held : List Telegram) (readings : List Reading) (lines : List Line) (held' : List Telegram) (readings' : List Reading) : Type 0 where
  too_long : longest < length bytes → lines ≡ Heading ∷ refused_line longest Long → held' ≡ held → readings' ≡ readings → Lists l pl bytes held readings lines held' readings'
  played : length bytes ≤ longest → Played l pl bytes held readings lines held' readings' → Lists l pl bytes held readings lines held' readings'

-- the law of runs: over an empty queue, wherever a run stops, its history accounts for every telegram and a reader can rely on its list
abbrev pub RunsAccount : Type 0
RunsAccount =
    (l pl : Limits) (bytes : List ℕ) (readings readings' : List Reading) (place : ℕ) (phase : Phase) (events last : List (ℕ × Event))
    → Ran l pl bytes [] readings place phase readings' events
    → Stops bytes place last
    → Accounted l phase (settings_in events) (entries_in events) × Readable (Heading ∷ flat_map lines_of (events ++ last)) (held_in phase)
