-- What one command of a stage answers.
use Rattle.std.specs.Prelude.{◌≡◌, ℕ, List, Some, None, Option, Result}
use Rattle.records.specs.declared.telegram.Telegram.{Telegram}
use Rattle.records.specs.declared.reading.Reading.{Reading}
use Rattle.shows.specs.Calls.{Limits, State}
use Rattle.cabinet.specs.declared.rigged.RiggedShow.{RiggedShow}
use Rattle.wire.specs.declared.commands.Command.{Command}
use Rattle.runs.specs.Events.{Event, lines_of}
use Rattle.runs.specs.Runs.{Phase, rigging, closed, Does}
use Rattle.runs.specs.declared.fault.StreamFault.{StreamFault}
use Rattle.streams.specs.Printing.{lines_at}
use Rattle.streams.specs.declared.closed.ClosedShow.{ClosedShow}
use Rattle.streams.specs.declared.printed.Printed.{Printed}

-- what never changes of a queue
abbrev pub limits_at : {Q : Type 0} → (room slack : Q → ℕ) → Q → Limits
limits_at room slack q = record { capacity = room q; slack = slack q }

-- the phase of a rigged show, from what its queue means
abbrev pub rigging_of : {Q : Type 0} → (Q → List Telegram) → RiggedShow Q → Phase
rigging_of held show = rigging show.rows (held show.queue)

-- the phase of a show that is closed, in its last state but for what its queue holds
abbrev pub closed_of : {Q : Type 0} → (Q → List Telegram) → ClosedShow Q → State → Phase
closed_of held show s = closed (record s { held = held show.queue })

-- a command was done, and at whatever place it stands it prints by its answer the lines of what it did
pub record Did (l pl : Limits) (phase : Phase) (readings : List Reading) (command : Command) (answer : Result Printed StreamFault) (phase' : Phase) (readings' : List Reading) : Type 0 where
  pub event : Event
  pub does : Does l pl phase readings command event phase' readings'
  pub prints : (place : ℕ) → lines_at place answer ≡ lines_of (place, event)

-- a command of a stage: done, or left undone where it is the one that ends the stage
abbrev pub Handles : Option Command → (l pl : Limits) → Phase → List Reading → Command → Option (Result Printed StreamFault) → Phase → List Reading → Type 0
Handles ending l pl phase readings command None phase' readings' = (Some command ≡ ending) × (phase' ≡ phase) × (readings' ≡ readings)
Handles ending l pl phase readings command (Some answer) phase' readings' = Did l pl phase readings command answer phase' readings'
