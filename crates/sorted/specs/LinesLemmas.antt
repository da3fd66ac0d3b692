-- A sorted queue keeps the laws of a queue.
use Rattle.std.proofs.Common.{sym, arith}
use Rattle.records.specs.declared.record.Record.{Ghosts}
use Rattle.records.specs.Linear.{Linear}
use Rattle.queues.specs.Queues.{Lawful}
use Rattle.queues.proofs.Cells.{cells_lawful}
use Rattle.sorted.specs.Lines.{sorted_cells, sorted_held, sorted_room, sorted_slack}
use Rattle.sorted.specs.declared.Sorted.{Sorted}

-- every sorted queue is as a queue is
pub sorted_lawful : {R : Type 0} {M : Ghosts R} → Linear M.order → (q : Sorted R M) → Lawful M.order M.last (sorted_held q) (sorted_room q) (sorted_slack q)
sorted_lawful l q = cells_lawful _ _ l (sorted_cells q) (sorted_room q) (sorted_slack q) (sym q.over.cells.ok.0) q.over.some (omega arith)
