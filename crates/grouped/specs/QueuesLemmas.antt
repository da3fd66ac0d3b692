-- What holds of every grouped queue is what holds of every queue.
use Rattle.std.specs.Prelude.{◌≡◌, ℕ, ◌*◌, ◌≤◌, Bool, List, length}
use Rattle.std.proofs.Common.{sym, ◌∙◌, arith}
use Rattle.records.specs.Linear.{Linear}
use Rattle.queues.specs.Queues.{Lawful}
use Rattle.queues.specs.Cells.{held_in}
use Rattle.queues.proofs.Cells.{cells_lawful}
use Rattle.standing.proofs.Rows.{row_end}

-- groups of two cells and more have some cell
pub some_cells : (m n : ℕ) → 1 ≤ m → 2 ≤ n → 1 ≤ m * n
some_cells m n s t = let r = row_end 0 m n s in omega arith

-- the cells as a `Vec` has them, of a length that is the groups' cells
pub groups_lawful : {R : Type 0} (le : R → R → Bool) → Linear le → (d : R) (m n count : ℕ) (cells : List R) → count ≡ m * n → count ≡ length cells → 1 ≤ m → 2 ≤ n → Lawful le d (held_in le d cells) (m * n) m
groups_lawful le l d m n count cells whole is some two = cells_lawful le d l cells (m * n) m (sym is ∙ whole) (some_cells m n some two) some
