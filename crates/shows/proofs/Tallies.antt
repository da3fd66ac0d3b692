-- How many telegrams of a list pass a test, and that a number is borne once.
use Rattle.std.proofs.Common.{◌≡◌, ℕ, ◌+◌, ◌<◌, ◌≤◌, Bool, true, false, cond, eqb, List, [], ◌∷◌, count_by, refl, ap, ⊎_elim, arith}
use Rattle.std.proofs.lemmas.List.Sums.{sum_by-cons}
use Rattle.std.proofs.lemmas.Bool.{cond_both, cases_eq, ne_eqb}
use Rattle.records.specs.Sorting.{insert}
use Rattle.records.specs.declared.telegram.Telegram.{Telegram}
use Rattle.shows.specs.Calls.{Limits, State}
use Rattle.shows.specs.Histories.{Setting, Entry, History, accepted_in}
use Rattle.shows.proofs.Ledger.{Numbered, moved_steps}

module _ {R : Type 0} (p : R → Bool) where
  pub count_by_cons : (x : R) (xs : List R) → count_by p (x ∷ xs) ≡ cond (p x) 1 0 + count_by p xs
  count_by_cons x xs = sum_by-cons (λ y. cond (p y) 1 0) x xs

  pub count_by_insert : (le : R → R → Bool) (x : R) (xs : List R) → count_by p (insert le x xs) ≡ cond (p x) 1 0 + count_by p xs
  count_by_insert le x [] = count_by_cons x []
  count_by_insert le x (y ∷ ys) =
      cond_both (le x y) (x ∷ y ∷ ys) (y ∷ insert le x ys) (λ l. count_by p l ≡ cond (p x) 1 0 + count_by p (y ∷ ys))
      (λ _. count_by_cons x (y ∷ ys))
      (λ _. omega (arith, count_by_cons y (insert le x ys), count_by_cons y ys, count_by_insert le x ys))

-- telegrams that bear n, n + 1, .. : none below n, and each number once
none_below : (m n : ℕ) (ts : List Telegram) → m < n → Numbered n ts → count_by (λ t. eqb t.number m) ts ≡ 0
none_below m n [] low h = refl
none_below m n (t ∷ ts) low h =
    let other : eqb t.number m ≡ false = ne_eqb t.number m (λ e. omega (arith, h.0)) in
    omega (arith, count_by_cons (λ t. eqb t.number m) t ts, ap {B = ℕ} (λ b. cond b 1 0) other, none_below m (n + 1) ts (omega arith) h.1)

one_at_most : (b : Bool) → cond b 1 0 ≤ 1
one_at_most true = omega arith
one_at_most false = omega arith

pub number_once : (m n : ℕ) (ts : List Telegram) → Numbered n ts → count_by (λ t. eqb t.number m) ts ≤ 1
number_once m n [] h = omega arith
number_once m n (t ∷ ts) h =
    ⊎_elim
    (λ (e : t.number ≡ m). omega (arith, count_by_cons (λ t. eqb t.number m) t ts, one_at_most (eqb t.number m), none_below m (n + 1) ts (omega (arith, h.0)) h.1))
    (λ (apart : t.number ≡ m → ⊥). omega (arith, count_by_cons (λ t. eqb t.number m) t ts, ap {B = ℕ} (λ b. cond b 1 0) (ne_eqb t.number m apart), number_once m (n + 1) ts h.1))
    (cases_eq t.number m)

module _ (l : Limits) (settings : List Setting) where
  -- the telegrams of a history are numbered from 0 on
  pub numbered : {es : List Entry} {s : State} → History l settings es s → Numbered 0 (accepted_in es)
  numbered h = (moved_steps l (record { all = refl; limit = omega arith; ascends = tt; below = tt }) h).numbered
