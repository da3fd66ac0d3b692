use Rattle.std.proofs.Common.{◌≡◌, take, replicate}
use Rattle.cells.proofs.blank_all.Given as goal

abbrev pub invariant-loop-cell : goal.invariant-loop-cell
invariant-loop-cell g l = take l.cell-index l.cells ≡ replicate l.cell-index g.R.Record.last
