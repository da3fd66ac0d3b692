-- A queue that keeps its records in cells; the blank marks a cell that is free.
use Rattle.std.specs.Prelude.{◌≡◌, ℕ, Bool, cond, not, List, length, Ok, Err, filter, Result}
use Rattle.records.specs.Sorting.{sort}
use Rattle.queues.specs.declared.queue.Put.{Put}
use Rattle.queues.specs.declared.queue.Put.TheVariants.{Kept, Displaced}
use Rattle.queues.specs.declared.fault.QueueFault.{QueueFault}
use Rattle.queues.specs.declared.fault.QueueFault.TheVariants.{Empty, Blank}

module _ {R : Type 0} (le : R → R → Bool) (blank : R) where
  -- the records that the cells hold, ascending
  abbrev pub held_in : List R → List R
  held_in cells = filter (λ x. not (le blank x)) (sort le cells)

  -- so many of the cells hold a record
  abbrev pub Counted : List R → ℕ → Type 0
  Counted cells held = held ≡ length (held_in cells)

  -- what is answered to a put of x, where z is the cell that the step pushes out
  abbrev pub put_answer : R → R → Result (Put R) QueueFault
  put_answer x z = cond (le blank x) (Err Blank) (Ok (cond (le blank z) Kept (Displaced z)))

  -- what is answered to a take, where a is the first cell
  abbrev pub take_answer : R → Result R QueueFault
  take_answer a = cond (le blank a) (Err Empty) (Ok a)

  -- what is answered to an exchange for x
  abbrev pub exchange_answer : R → R → Result R QueueFault
  exchange_answer x a = cond (le blank x) (Err Blank) (take_answer a)
