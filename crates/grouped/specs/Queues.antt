-- A grouped queue as a value: its cells, and what they mean. The order and the blank are those of its kind of record, k.
use Rattle.std.specs.Prelude.{ℕ, ◌-◌, ◌*◌, List, vec_items, slice_index_or}
use Rattle.records.specs.declared.record.Record.{Ghosts}
use Rattle.queues.specs.Cells.{held_in}
use Rattle.standing.specs.Steps.{put_cells, take_cells, exchange_cells}
use Rattle.grouped.specs.declared.Groups.{Groups}

module _ {R : Type 0} {k : Ghosts R} where
  -- its cells, the first group's first
  abbrev pub cells_of : Groups R k → List R
  cells_of q = vec_items q.over.cells

  -- its capacity: a record to a cell
  abbrev pub groups_room : Groups R k → ℕ
  groups_room q = q.over.shape.groups * q.over.shape.size

  -- its slack: of each group but the last, the last record may stand after the one that leaves
  abbrev pub groups_slack : Groups R k → ℕ
  groups_slack q = q.over.shape.groups

  -- its records, ascending
  abbrev pub groups_held : Groups R k → List R
  groups_held q = held_in k.order k.last (cells_of q)

  -- A of its first group, and Z of its last
  abbrev pub first_cell : Groups R k → R
  first_cell q = slice_index_or (cells_of q) 0 k.last

  abbrev pub last_cell : Groups R k → R
  last_cell q = slice_index_or (cells_of q) (groups_room q - 1) k.last

  -- its cells after each step
  abbrev pub after_put : R → Groups R k → List R
  after_put x q = put_cells k.order k.last q.over.shape.groups q.over.shape.size x (cells_of q)

  abbrev pub after_take : Groups R k → List R
  after_take q = take_cells k.order k.last q.over.shape.groups q.over.shape.size (cells_of q)

  abbrev pub after_exchange : R → Groups R k → List R
  after_exchange x q = exchange_cells k.order k.last q.over.shape.groups q.over.shape.size x (cells_of q)
