-- What a sorted queue of any record kind means. `M` is the kind's order and blank.
use Rattle.std.specs.Prelude.{ℕ, ◌-◌, List, vec_items, vec_len, slice_index_or}
use Rattle.records.specs.declared.record.Record.{Ghosts}
use Rattle.queues.specs.Cells.{held_in}
use Rattle.sorted.specs.declared.Sorted.{Sorted}

module _ {R : Type 0} {M : Ghosts R} where
  -- what stands in its cells
  abbrev pub sorted_cells : Sorted R M → List R
  sorted_cells q = vec_items q.over.cells

  -- its first cell and its last; the blank is not read, since there is a cell
  abbrev pub first_cell : Sorted R M → R
  first_cell q = slice_index_or (sorted_cells q) 0 M.last

  abbrev pub last_cell : Sorted R M → R
  last_cell q = slice_index_or (sorted_cells q) (vec_len q.over.cells - 1) M.last

  -- its collection
  abbrev pub sorted_held : Sorted R M → List R
  sorted_held q = held_in M.order M.last (sorted_cells q)

  -- its capacity: as many records as it has cells
  abbrev pub sorted_room : Sorted R M → ℕ
  sorted_room q = vec_len q.over.cells

  -- a full queue displaces its last record and no other
  abbrev pub sorted_slack : Sorted R M → ℕ
  sorted_slack q = 1
