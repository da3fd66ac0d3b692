use Rattle.std.proofs.Common.{◌≡◌, ◌*◌, take, drop}
use Rattle.standing.specs.Steps.{flat, next_a, take_groups}
use Rattle.standing.proofs.Rows.{rows}
use Rattle.group_steps.proofs.take_step.Given as goal

abbrev pub invariant-loop-i : goal.invariant-loop-i
invariant-loop-i g l =
    (take (l.i * l.shape.size) l.cells ≡ take (l.i * l.shape.size) l.initial.cells)
    × (drop (l.i * l.shape.size) l.cells ≡ flat (take_groups g.R.Record.order g.R.Record.last l.shape.size (rows l.shape.groups l.shape.size l.i l.initial.cells)))
    × (l.next ≡ next_a g.R.Record.last (rows l.shape.groups l.shape.size l.i l.initial.cells))
