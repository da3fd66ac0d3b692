use Rattle.std.proofs.Common.{◌≡◌, ◌-◌, ◌*◌, ◌≤◌, ◌++◌, get_or, take, drop}
use Rattle.standing.specs.Steps.{flat, put_groups, put_cells}
use Rattle.standing.proofs.Rows.{rows}
use Rattle.group_steps.proofs.put_step.Given as goal

abbrev pub invariant-loop-i : goal.invariant-loop-i
invariant-loop-i g l =
    (take (l.i * l.shape.size) l.cells ++ flat (put_groups g.R.Record.order g.R.Record.last l.shape.size l.z (rows l.shape.groups l.shape.size l.i l.initial.cells))
    ≡ put_cells g.R.Record.order g.R.Record.last l.shape.groups l.shape.size l.initial.z l.initial.cells)
    × (drop (l.i * l.shape.size) l.cells ≡ drop (l.i * l.shape.size) l.initial.cells)
    × (1 ≤ l.i → l.z ≡ get_or l.initial.cells (l.i * l.shape.size - 1) g.R.Record.last)
