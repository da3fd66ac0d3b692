-- What a queue means, and what each call does to that. A queue's value is read by three functions: `held`, its collection as one ascending list in which equal records repeat, `room`, its capacity, and `slack`.
use Rattle.std.specs.Prelude.{◌≡◌, ℕ, ◌<◌, ◌≤◌, min, Bool, ◌⊎◌, List, [], ◌∷◌, length, Some, None, Ok, Err, Option, Result}
use Rattle.std.specs.List.{AllByRecursion}
use Rattle.records.specs.Sorting.{insert, later_than, Ascending, Filled}
use Rattle.queues.specs.Faults.{number}
use Rattle.queues.specs.declared.queue.Put.{Put}
use Rattle.queues.specs.declared.queue.Put.TheVariants.{Kept, Displaced}
use Rattle.queues.specs.declared.fault.QueueFault.{QueueFault}

-- what holds of every queue, between any two calls
pub record Lawful {R : Type 0} (le : R → R → Bool) (blank : R) (held : List R) (room slack : ℕ) : Type 0 where
  pub ascends : Ascending le held
  pub filled : AllByRecursion (Filled le blank) held
  pub within : length held ≤ room
  pub roomy : 1 ≤ room
  pub slackens : 1 ≤ slack

-- the first of a list, where it has one
abbrev pub first_of : {R : Type 0} → List R → Option R
first_of [] = None
first_of (x ∷ xs) = Some x

-- what was answered to a put, from the record that left for it
abbrev pub put_of : {R : Type 0} → Option R → Put R
put_of None = Kept
put_of (Some d) = Displaced d

-- a number as a question answers it
abbrev pub told : ℕ → ℕ
told n = min n 1000000

module _ {R Q : Type 0} (held : Q → List R) (room slack : Q → ℕ) where
  -- capacity and slack never change
  pub record SameLimits (q q' : Q) : Type 0 where
    pub room_stays : room q' ≡ room q
    pub slack_stays : slack q' ≡ slack q

  -- take: the first record leaves and is answered, or nothing is held
  abbrev pub Takes : Q → Result R QueueFault → Q → Type 0
  Takes q (Ok r) q' = (held q ≡ r ∷ held q') × SameLimits q q'
  Takes q (Err e) q' = (held q ≡ []) × (number e ≡ 8) × (q' ≡ q)

module _ {R Q : Type 0} (le : R → R → Bool) (blank : R) (held : Q → List R) (room slack : Q → ℕ) where
  -- x comes in and d leaves for it; fewer than slack of what was held stand after d
  pub record Displaces (q : Q) (x d : R) (q' : Q) : Type 0 where
    pub rest : List R
    pub was : held q ≡ insert le d rest
    pub is : held q' ≡ insert le x rest
    pub near : later_than le d (held q) < slack q

  -- put: the collection gains the record, and where it was full loses another, which is answered
  abbrev pub Puts : Q → R → Result (Put R) QueueFault → Q → Type 0
  Puts q x (Ok Kept) q' = Filled le blank x × (length (held q) < room q) × (held q' ≡ insert le x (held q)) × SameLimits held room slack q q'
  Puts q x (Ok (Displaced d)) q' = Filled le blank x × (length (held q) ≡ room q) × Displaces q x d q' × SameLimits held room slack q q'
  Puts q x (Err e) q' = (x ≡ blank) × (number e ≡ 11) × (q' ≡ q)

  -- r, the first, leaves and x comes in
  pub record Trades (q : Q) (x r : R) (q' : Q) : Type 0 where
    pub rest : List R
    pub was : held q ≡ r ∷ rest
    pub is : held q' ≡ insert le x rest

  -- exchange: the blank is refused first, then the empty queue
  abbrev pub Exchanges : Q → R → Result R QueueFault → Q → Type 0
  Exchanges q x (Ok r) q' = Filled le blank x × Trades q x r q' × SameLimits held room slack q q'
  Exchanges q x (Err e) q' = (((x ≡ blank) × (number e ≡ 11)) ⊎ (Filled le blank x × (held q ≡ []) × (number e ≡ 8))) × (q' ≡ q)
