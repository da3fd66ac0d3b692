-- What is answered, once it is known whether the record and the cell are blank.
use Rattle.std.proofs.Common.{◌≡◌, Bool, true, cond, Ok, Err, Result, sym, ap, ◌∙◌}
use Rattle.std.proofs.lemmas.Bool.{cond-true, cond-false}
use Rattle.records.specs.Sorting.{Filled}
use Rattle.queues.specs.Cells.{put_answer, take_answer, exchange_answer}
use Rattle.queues.specs.declared.queue.Put.TheVariants.{Kept, Displaced}
use Rattle.queues.specs.declared.fault.QueueFault.{QueueFault}
use Rattle.queues.specs.declared.fault.QueueFault.TheVariants.{Empty, Blank}

module _ {R : Type 0} (le : R → R → Bool) (blank : R) where
  pub kept_told : (x z w : R) → z ≡ w → Filled le blank x → le blank z ≡ true → Ok Kept ≡ put_answer le blank x w
  kept_told x z w e f t = sym (cond-false (le blank x) (Err Blank) (Ok (cond (le blank z) Kept (Displaced z))) f ∙ ap Ok (cond-true (le blank z) Kept (Displaced z) t)) ∙ ap (put_answer le blank x) e

  pub displaced_told : (x z w : R) → z ≡ w → Filled le blank x → Filled le blank z → Ok (Displaced z) ≡ put_answer le blank x w
  displaced_told x z w e f t = sym (cond-false (le blank x) (Err Blank) (Ok (cond (le blank z) Kept (Displaced z))) f ∙ ap Ok (cond-false (le blank z) Kept (Displaced z) t)) ∙ ap (put_answer le blank x) e

  pub taken_told : (a w : R) → a ≡ w → Filled le blank a → Ok a ≡ take_answer le blank w
  taken_told a w e f = sym (cond-false (le blank a) (Err Empty) (Ok a) f) ∙ ap (take_answer le blank) e

  pub empty_told : (w : R) → le blank w ≡ true → Err Empty ≡ take_answer le blank w
  empty_told w t = sym (cond-true (le blank w) (Err Empty) (Ok w) t)

  pub exchange_told : (x w : R) (r : Result R QueueFault) → Filled le blank x → r ≡ take_answer le blank w → r ≡ exchange_answer le blank x w
  exchange_told x w r f e = e ∙ sym (cond-false (le blank x) (Err Blank) (take_answer le blank w) f)
