-- The lines that one command prints.
use Rattle.std.specs.Prelude.{ℕ, List, [], ◌∷◌, Ok, Err, Result}
use Rattle.wire.specs.declared.lines.Line.{Line}
use Rattle.runs.specs.Events.{refused_line}
use Rattle.runs.specs.declared.fault.StreamFault.{StreamFault}
use Rattle.streams.specs.declared.printed.Printed.{Printed}
use Rattle.streams.specs.declared.printed.Printed.TheVariants.{Nothing, One, Two}

-- in their sequence
abbrev pub lines_in : Printed → List Line
lines_in Nothing = []
lines_in (One x) = x ∷ []
lines_in (Two x y) = x ∷ y ∷ []

-- what a command at a place prints by its answer: the lines, or the one of its refusal
abbrev pub lines_at : ℕ → Result Printed StreamFault → List Line
lines_at place (Ok printed) = lines_in printed
lines_at place (Err e) = refused_line place e
