-- One cell beside a queue.
use Rattle.std.specs.Prelude.{◌≡◌, ℕ, ◌+◌, Bool, true, cond, List, [], ◌∷◌, Some, None, Ok, Err, MatchBool, Option, Result}
use Rattle.std.specs.Option.{MatchOption}
use Rattle.records.specs.Sorting.{insert, earlier, later}
use Rattle.records.specs.declared.record.Record.{Ghosts}
use Rattle.queues.specs.Queues.{Puts, Takes, Exchanges}
use Rattle.queues.specs.declared.queue.Put.{Put}
use Rattle.queues.specs.declared.queue.Put.TheVariants.{Kept}
use Rattle.queues.specs.declared.fault.QueueFault.{QueueFault}
use Rattle.queues.specs.declared.fault.QueueFault.TheVariants.{Blank}
use Rattle.sides.specs.declared.SideCell.{SideCell}

module _ {R : Type 0} (le : R → R → Bool) where
  -- a collection with the record of the cell, if it has one
  abbrev pub with_cell : Option R → List R → List R
  with_cell None xs = xs
  with_cell (Some c) xs = insert le c xs

  -- c stands no later than the first of a list, if it has one
  abbrev pub leads : R → List R → Bool
  leads c [] = true
  leads c (y ∷ ys) = le c y

  -- the record of the cell, where it is the first of all, the cell's on a tie
  abbrev pub leader : Option R → List R → Option R
  leader None below = None
  leader (Some c) below = cond (leads c below) (Some c) None

-- what a side cell means, from what the queue below it means
abbrev pub side_held : {R Q : Type 0} {kind : Ghosts R} → (R → R → Bool) → (Q → List R) → SideCell R Q kind → List R
side_held le held s = with_cell le s.cell (held s.below)

abbrev pub side_room : {R Q : Type 0} {kind : Ghosts R} → (Q → ℕ) → SideCell R Q kind → ℕ
side_room room s = room s.below + 1

abbrev pub side_slack : {R Q : Type 0} {kind : Ghosts R} → (Q → ℕ) → SideCell R Q kind → ℕ
side_slack slack s = slack s.below + 1

module _ {R Q : Type 0} {kind : Ghosts R} (le : R → R → Bool) (blank : R) (held : Q → List R) (room slack : Q → ℕ) where
  -- put: a free cell takes the record. Otherwise the earlier of the two stays (the one that is there on a tie), and the later is put below
  abbrev pub SidePuts : SideCell R Q kind → R → Result (Put R) QueueFault → SideCell R Q kind → Type 0
  SidePuts s x r s' =
      MatchBool (le blank x)
      ((r ≡ Err Blank) × (s' ≡ s))
      (MatchOption s.cell
      ((r ≡ Ok Kept) × (s'.cell ≡ Some x) × (s'.below ≡ s.below))
      (λ c. (s'.cell ≡ Some (earlier le c x)) × Puts le blank held room slack s.below (later le c x) r s'.below))

  -- exchange: whichever holds the first record gives it up, and takes the newcomer
  abbrev pub SideExchanges : SideCell R Q kind → R → Result R QueueFault → SideCell R Q kind → Type 0
  SideExchanges s x r s' =
      MatchBool (le blank x)
      ((r ≡ Err Blank) × (s' ≡ s))
      (MatchOption (leader le s.cell (held s.below))
      ((s'.cell ≡ s.cell) × Exchanges le blank held room slack s.below x r s'.below)
      (λ c. (r ≡ Ok c) × (s'.cell ≡ Some x) × (s'.below ≡ s.below)))

module _ {R Q : Type 0} {kind : Ghosts R} (le : R → R → Bool) (held : Q → List R) (room slack : Q → ℕ) where
  -- take: whichever holds the first record gives it up
  abbrev pub SideTakes : SideCell R Q kind → Result R QueueFault → SideCell R Q kind → Type 0
  SideTakes s r s' =
      MatchOption (leader le s.cell (held s.below))
      ((s'.cell ≡ s.cell) × Takes held room slack s.below r s'.below)
      (λ c. (r ≡ Ok c) × (s'.cell ≡ None) × (s'.below ≡ s.below))
