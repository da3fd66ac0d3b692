use Rattle.std.proofs.Common.{◌≡◌, ◌*◌, ◌++◌, take, drop}
use Rattle.standing.specs.Steps.{flat, exchange_groups, exchange_cells}
use Rattle.standing.proofs.Rows.{rows}
use Rattle.group_steps.proofs.exchange_step.Given as goal

abbrev pub invariant-loop-i : goal.invariant-loop-i
invariant-loop-i g l =
    (take (l.i * l.shape.size) l.cells ++ flat (exchange_groups g.R.Record.order g.R.Record.last l.shape.size l.a (rows l.shape.groups l.shape.size l.i l.initial.cells))
    ≡ exchange_cells g.R.Record.order g.R.Record.last l.shape.groups l.shape.size l.initial.a l.initial.cells)
    × (drop (l.i * l.shape.size) l.cells ≡ drop (l.i * l.shape.size) l.initial.cells)
