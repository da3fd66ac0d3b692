-- How a stream is played, stage by stage.
use Rattle.std.specs.Prelude.{◌≡◌, ℕ, List, [], Some, None, Ok, Err, Option, Result}
use Rattle.records.specs.declared.telegram.Telegram.{Telegram}
use Rattle.records.specs.declared.reading.Reading.{Reading}
use Rattle.shows.specs.Calls.{Limits, State}
use Rattle.wire.specs.declared.commands.Command.{Command}
use Rattle.wire.specs.declared.commands.Found.{Found}
use Rattle.buffers.specs.declared.faults.WireFault.{WireFault}
use Rattle.wire.specs.declared.lines.Line.{Line}
use Rattle.runs.specs.Events.{refused_line}
use Rattle.runs.specs.Runs.{Phase}
use Rattle.runs.specs.Lists.{Reached, Played}
use Rattle.runs.specs.declared.fault.StreamFault.TheVariants.{Wire}
use Rattle.streams.specs.Stages.{limits_at}
use Rattle.streams.specs.Places.{StandsAt}
use Rattle.streams.specs.declared.playing.Playing.{Playing}
use Rattle.streams.specs.declared.run.Listed.{Listed}

-- where a stage ends: before the command that ends it, at the end of the bytes, or before bytes that are no command
abbrev pub Halts : Option Command → List ℕ → ℕ → Result Found (Option WireFault) → Type 0
Halts ending bytes place (Ok f) = StandsAt bytes place (Ok (Some f)) × (Some f.command ≡ ending)
Halts ending bytes place (Err None) = StandsAt bytes place (Ok None)
Halts ending bytes place (Err (Some e)) = StandsAt bytes place (Err e)

-- the line of bytes that are no command, where a run ends before them
abbrev pub last_lines : ℕ → Option WireFault → List Line
last_lines place None = []
last_lines place (Some e) = refused_line place (Wire e)

module _ {P : Type 0} (held : P → List Reading) (room slack : P → ℕ) where
  -- a run came to where a stream is played to, and the show to a phase
  abbrev pub Stands : (l : Limits) → Playing P → List Telegram → List Reading → Phase → Type 0
  Stands l x h rs phase = Reached l (limits_at room slack x.panel.queue) x.bytes.now h rs x.place phase (held x.panel.queue) x.lines.items

  -- a stream was played on: it is the same over the same panel, and every run that led to where it stood leads on, whatever a show that is closed no longer knows
  pub record PlayedOn (l : Limits) (x : Playing P) (phase : State → Phase) (y : Playing P) (phase' : State → Phase) : Type 0 where
    pub bytes : y.bytes ≡ x.bytes
    pub limits : limits_at room slack y.panel.queue ≡ limits_at room slack x.panel.queue
    pub leads : (s : State) (h : List Telegram) (rs : List Reading) → Stands l x h rs (phase s) → Stands l y h rs (phase' s)

-- what a run leaves that is played to the end from here, with the show in a phase
module _ {Q P : Type 0} (held : Q → List Telegram) (room slack : Q → ℕ) (held-panel : P → List Reading) (room-panel slack-panel : P → ℕ) where
  pub record Leaves (l : Limits) (x : Playing P) (phase : Phase) (r : Listed Q P) : Type 0 where
    pub played : (h : List Telegram) (rs : List Reading) → Stands held-panel room-panel slack-panel l x h rs phase → Played l (limits_at room-panel slack-panel x.panel.queue) x.bytes.now h rs r.lines.items (held r.queue) (held-panel r.readings)
    pub limits : limits_at room slack r.queue ≡ l
    pub panel : limits_at room-panel slack-panel r.readings ≡ limits_at room-panel slack-panel x.panel.queue
