-- A departure is no earlier than the release of the telegram that was accepted under its number.
use Rattle.std.proofs.Common.{◌≡◌, ℕ, zero, suc, ◌+◌, ◌<◌, ◌≤◌, true, false, cond, List, [], ◌∷◌, length, get_or, sym, ap, ◌∙◌, ⊎_elim, arith}
use Rattle.std.specs.List.{ContainsAt as Has, AllByRecursion as All}
use Rattle.std.proofs.ByRecursion.{All-weaker, has_append_right}
use Rattle.std.proofs.lemmas.Bool.{cases_Bool, and_parts}
use Rattle.records.specs.Sorting.{same}
use Rattle.records.specs.Telegrams.{stands}
use Rattle.records.specs.declared.telegram.Telegram.{Telegram}
use Rattle.records.specs.TelegramsLemmas.{linear}
use Rattle.shows.specs.Accounts.{times_in}
use Rattle.shows.specs.Calls.{Limits, State}
use Rattle.shows.specs.Histories.{Setting, Entry, History, Departure, telegrams, accepted_in, departures_in}
use Rattle.shows.proofs.Accounting.{balanced}
use Rattle.shows.proofs.Inserting.{one_self}
use Rattle.shows.proofs.Ledger.{Numbered}
use Rattle.shows.proofs.Pace.{on_time}
use Rattle.shows.proofs.Tallies.{numbered}

-- ---- a number tells a telegram among numbered ones
numbered_at : (n : ℕ) (ts : List Telegram) (i : ℕ) (d : Telegram) → i < length ts → Numbered n ts → (get_or ts i d).number ≡ n + i
numbered_at n [] i d lt h = absurd (omega arith)
numbered_at n (t ∷ ts) zero d lt h = omega (arith, h.0)
numbered_at n (t ∷ ts) (suc i) d lt h = omega (arith, numbered_at (n + 1) ts i d (omega arith) h.1)

same_number : (n : ℕ) (ts : List Telegram) (t u : Telegram) → Numbered n ts → Has ts t → Has ts u → t.number ≡ u.number → t ≡ u
same_number n ts t u h at of e =
    let p = numbered_at n ts at.0 t at.1 h in
    let q = numbered_at n ts of.0 t of.1 h in
    let p' = ap (λ v. v.number) (at.2 t) in
    let q' = ap (λ v. v.number) (of.2 t) in
    let i : at.0 ≡ of.0 = omega arith in
    sym (at.2 t) ∙ ap (λ v. get_or ts v t) i ∙ of.2 t

-- ---- what is counted stands there
counted_has : (t : Telegram) (xs : List Telegram) → 1 ≤ times_in t xs → Has xs t
counted_has t [] h = absurd (omega arith)
counted_has t (x ∷ xs) h =
    ⊎_elim
    (λ (e : same stands t x ≡ true). let p = and_parts (stands t x) (stands x t) e in (0, omega arith, λ d. sym (linear.antisym t x p.0 p.1)))
    (λ (e : same stands t x ≡ false). has_append_right (x ∷ []) xs t (counted_has t xs (omega (arith, ap {B = ℕ} (λ b. cond b 1 0) e))))
    (cases_Bool (same stands t x))

departed_counted : (ds : List Departure) → All (λ d. 1 ≤ times_in d.telegram (telegrams ds)) ds
departed_counted [] = tt
departed_counted (d ∷ ds) =
    (omega (arith, one_self stands linear d.telegram), All-weaker (λ v. 1 ≤ times_in v.telegram (telegrams ds)) (λ v. 1 ≤ times_in v.telegram (telegrams (d ∷ ds))) (λ v h. omega arith) ds (departed_counted ds))

both : {X : Type 0} (P Q R : X → Type 0) → ((x : X) → P x → Q x → R x) → (xs : List X) → All P xs → All Q xs → All R xs
both P Q R f [] h k = tt
both P Q R f (x ∷ xs) h k = (f x h.0 k.0, both P Q R f xs h.1 k.1)

module _ (l : Limits) (settings : List Setting) (es : List Entry) (end : State) (h : History l settings es end) where
  abbrev pub LateEnough : Departure → Type 0
  LateEnough d = (u : Telegram) → Has (accepted_in es) u → u.number ≡ d.telegram.number → u.release ≤ d.time

  late_enough : (d : Departure) → d.telegram.release ≤ d.time → 1 ≤ times_in d.telegram (telegrams (departures_in es)) → LateEnough d
  late_enough d due there u at e =
      let was = counted_has d.telegram (accepted_in es) (omega (arith, (balanced l settings es end h).each d.telegram)) in
      let is = same_number 0 (accepted_in es) u d.telegram (numbered l settings h) at was e in
      omega (arith, ap (λ v. v.release) is)

  pub departs_late_enough : All LateEnough (departures_in es)
  departs_late_enough = both (λ d. d.telegram.release ≤ d.time) (λ d. 1 ≤ times_in d.telegram (telegrams (departures_in es))) LateEnough late_enough (departures_in es) (on_time l h) (departed_counted (departures_in es))
