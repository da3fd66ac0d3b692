-- Telegrams in their order: by release first, and a newcomer after those that were accepted before it and are due.
use Rattle.std.proofs.Common.{◌≡◌, ℕ, ◌<◌, ◌≤◌, Bool, true, false, cond, leb, ap, ⊎_elim, arith}
use Rattle.std.proofs.lemmas.Bool.{cases_Bool, and_parts}
use Rattle.std.proofs.lemmas.Bool.Decides.{nat_tests}
use Rattle.records.specs.Sorting.{same}
use Rattle.records.specs.Telegrams.{stands}
use Rattle.records.specs.declared.telegram.Telegram.{Telegram}
use Rattle.records.specs.TelegramsLemmas.{linear}

-- what a comparison by two numbers and then others says of the first, and when the second decides it
first_no_later : (a b : ℕ) (p : Bool) → cond (leb a b) (cond (leb b a) p true) false ≡ true → a ≤ b
first_no_later a b p h = grind (arith, nat_tests)

second_after : (a b m n : ℕ) (p : Bool) → b ≤ a → n < m → cond (leb a b) (cond (leb b a) (cond (leb m n) p false) true) false ≡ false
second_after a b m n p h k = grind (arith, nat_tests)

pub stands_release : (t u : Telegram) → stands t u ≡ true → t.release ≤ u.release
stands_release t u h = first_no_later t.release u.release _ h

-- what is released no sooner and has a higher number stands after
pub stands_after : (x y : Telegram) → y.release ≤ x.release → y.number < x.number → stands x y ≡ false
stands_after x y h k = second_after x.release y.release x.number y.number _ h k

pub other_number : (t u : Telegram) → (t.number ≡ u.number → ⊥) → same stands t u ≡ false
other_number t u apart =
    ⊎_elim
    (λ (e : same stands t u ≡ true). let p = and_parts (stands t u) (stands u t) e in absurd (apart (ap (λ x. x.number) (linear.antisym t u p.0 p.1))))
    (λ (e : same stands t u ≡ false). e)
    (cases_Bool (same stands t u))
