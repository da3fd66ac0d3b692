-- A queue that is held another way: the same meaning read off another value.
use Rattle.std.proofs.Common.{◌≡◌, ℕ, ◌<◌, Bool, List, ◌∷◌, length, Ok, Err, Result, sym, ap, ◌∙◌, subst}
use Rattle.records.specs.Sorting.{insert, later_than}
use Rattle.queues.specs.Queues.{SameLimits, Puts, Takes}
use Rattle.queues.specs.declared.queue.Put.{Put}
use Rattle.queues.specs.declared.queue.Put.TheVariants.{Kept, Displaced}
use Rattle.queues.specs.declared.fault.QueueFault.{QueueFault}

-- two values of which one is read as the other is
pub record Reads {R Q P : Type 0} (held : Q → List R) (room slack : Q → ℕ) (held₀ : P → List R) (room₀ slack₀ : P → ℕ) (q : Q) (p : P) : Type 0 where
  pub held_is : held q ≡ held₀ p
  pub room_is : room q ≡ room₀ p
  pub slack_is : slack q ≡ slack₀ p

module _ {R Q P : Type 0} (held : Q → List R) (room slack : Q → ℕ) (held₀ : P → List R) (room₀ slack₀ : P → ℕ) (q q' : Q) (p p' : P) (a : Reads held room slack held₀ room₀ slack₀ q p) (b : Reads held room slack held₀ room₀ slack₀ q' p') where
  same_over : SameLimits held₀ room₀ slack₀ p p' → SameLimits held room slack q q'
  same_over s = record { room_stays = b.room_is ∙ s.room_stays ∙ sym a.room_is; slack_stays = b.slack_is ∙ s.slack_stays ∙ sym a.slack_is }

  pub takes_over : (r : Result R QueueFault) → (p' ≡ p → q' ≡ q) → Takes held₀ room₀ slack₀ p r p' → Takes held room slack q r q'
  takes_over (Ok r) same t = (a.held_is ∙ t.0 ∙ ap (λ v. r ∷ v) (sym b.held_is), same_over t.1)
  takes_over (Err e) same t = (a.held_is ∙ t.0, t.1, same t.2)

  module _ (le : R → R → Bool) (blank : R) where
    pub puts_over : (x : R) (r : Result (Put R) QueueFault) → (p' ≡ p → q' ≡ q) → Puts le blank held₀ room₀ slack₀ p x r p' → Puts le blank held room slack q x r q'
    puts_over x (Ok Kept) same t =
        let free : length (held q) < room q = subst (λ v. length v < room q) (sym a.held_is) (subst (λ v. length (held₀ p) < v) (sym a.room_is) t.1) in
        (t.0, free, b.held_is ∙ t.2 ∙ ap (insert le x) (sym a.held_is), same_over t.3)
    puts_over x (Ok (Displaced d)) same t =
        let near : later_than le d (held q) < slack q = subst (λ v. later_than le d v < slack q) (sym a.held_is) (subst (λ v. later_than le d (held₀ p) < v) (sym a.slack_is) t.2.near) in
        (t.0, ap length a.held_is ∙ t.1 ∙ sym a.room_is, record { rest = t.2.rest; was = a.held_is ∙ t.2.was; is = b.held_is ∙ t.2.is; near = near }, same_over t.3)
    puts_over x (Err e) same t = (t.0, t.1, same t.2)
