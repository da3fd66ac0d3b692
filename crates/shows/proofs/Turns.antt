-- A held telegram that is due, with slack held ones after it, leaves in its turn.
use Rattle.std.proofs.Common.{◌≡◌, ℕ, zero, suc, ◌+◌, ◌<◌, ◌≤◌, Bool, true, false, cond, ◌⊎◌, List, [], ◌∷◌, ◌++◌, length, get_or, Some, None, Ok, Err, Option, sym, refl, ap, ◌∙◌, subst, inl, inr, ⊎_elim, arith}
use Rattle.std.specs.List.{AllByRecursion as All}
use Rattle.std.proofs.lemmas.List.{length-append, append_assoc, get_or-append-add}
use Rattle.std.proofs.ByRecursion.{All-weaker, All-append}
use Rattle.std.proofs.lemmas.Bool.{cases_Bool, both_ways, le-ltb}
use Rattle.records.specs.Sorting.{insert, later_than}
use Rattle.records.specs.Telegrams.{stands, blank}
use Rattle.records.specs.declared.telegram.Telegram.{Telegram}
use Rattle.records.proofs.Sorting.{length_insert, all_insert, all_insert_back, insert_past}
use Rattle.records.specs.TelegramsLemmas.{linear}
use Rattle.queues.specs.Queues.{Puts, put_of}
use Rattle.shows.specs.Faults.{number}
use Rattle.shows.specs.Calls.{Limits, State, time_is_bad, early, none_held, release_refusal}
use Rattle.shows.specs.Histories.{Entry, admit, release, exchange, forecast, Departure, Step, Steps, done, next, telegrams, departed_by, departures_in, departed_in}
use Rattle.shows.specs.Accounts.{times_in}
use Rattle.shows.specs.declared.fault.ShowFault.{ShowFault}
use Rattle.shows.proofs.Inserting.{insert_after, later_end, one_self, count_stands, without_behind}
use Rattle.shows.proofs.Newcomers.{stands_after}
use Rattle.shows.proofs.Refusals.{number_some, time_passes, admit_passes, release_passes, exchange_passes, forecast_same}
use Rattle.shows.proofs.Ledger.{telegrams_append}

-- u is due, and was accepted before
abbrev pub Old : State → Telegram → Type 0
Old s u = (u.release ≤ s.clock) × (u.number < s.accepted)

-- t is held behind `before` and due, with slack and more after it
pub record Waiting (l : Limits) (t : Telegram) (s : State) (before after : List Telegram) : Type 0 where
  pub held : s.held ≡ before ++ (t ∷ after)
  pub slack : l.slack ≤ length after
  pub old : Old s t
  pub old_before : All (Old s) before
  pub no_later : All (λ y. stands y t ≡ true) before
  pub after_it : All (λ y. stands y t ≡ false) after

-- what a call e does of t: t waits on, or it was the first and leaves
abbrev pub Stays : Limits → Telegram → List Telegram → ℕ → State → Type 0
Stays l t before gone u = (before' : List Telegram) × (after' : List Telegram) × (length before ≡ gone + length before') × Waiting l t u before' after'

abbrev pub Goes : Telegram → List Telegram → Entry → Type 0
Goes t before e = (length before ≡ 0) × (telegrams (departed_by e) ≡ t ∷ [])

-- t left in its turn, or it is still held
abbrev pub Turned : Telegram → List Telegram → List Entry → State → Type 0
Turned t before later end =
    ((length before < length (departed_in later)) × ((d : Telegram) → get_or (departed_in later) (length before) d ≡ t))
    ⊎ ((length (departed_in later) ≤ length before) × (1 ≤ times_in t end.held))

length_telegrams : (xs : List Departure) → length (telegrams xs) ≡ length xs
length_telegrams [] = refl
length_telegrams (x ∷ xs) = omega (arith, length_telegrams xs)

pub count_at : (t : Telegram) (xs : List Telegram) (k : ℕ) → k < length xs → ((d : Telegram) → get_or xs k d ≡ t) → 1 ≤ times_in t xs
count_at t [] k low h = absurd (omega arith)
count_at t (x ∷ xs) zero low h = let e : x ≡ t = h t in rw e (omega (arith, one_self stands linear t))
count_at t (x ∷ xs) (suc k) low h = omega (arith, count_at t xs k (omega arith) h)

-- what stands first is due
front_due : (t : Telegram) (s : State) (at : ℕ) (before after : List Telegram) → t.release ≤ s.clock → All (Old s) before → s.clock ≤ at
    → (none_held (before ++ (t ∷ after)) ≡ false) × (early at (before ++ (t ∷ after)) ≡ false)
front_due t s at [] after d o c = (refl, le-ltb at t.release (omega arith))
front_due t s at (b ∷ bs) after d o c = (refl, le-ltb at b.release (omega (arith, o.0.0)))

module _ (l : Limits) (t : Telegram) where
  -- while t waits, a release is refused only for its time
  refused_by_1 : (s : State) (at : ℕ) (e : ShowFault) (before after : List Telegram) → Waiting l t s before after → number e ≡ release_refusal s at → number e ≡ 1
  refused_by_1 s at e before after w by = go (time_is_bad s at) refl by
    where
      go : (b : Bool) → time_is_bad s at ≡ b → number e ≡ cond b 1 (cond (none_held s.held) 8 (cond (early at s.held) 9 0)) → number e ≡ 1
      go true h k = k
      go false h k =
          let due = front_due t s at before after w.old.0 w.old_before (time_passes s at h) in
          let some : none_held s.held ≡ false = ap none_held w.held ∙ due.0 in
          let now-due : early at s.held ≡ false = ap (early at) w.held ∙ due.1 in
          let none : ◌≡◌ {A = ℕ} (cond (none_held s.held) 8 (cond (early at s.held) 9 0)) 0 = rw (some, now-due) in
          absurd (omega (arith, k, none, number_some e))

  old_later : (s u : State) (xs : List Telegram) → s.clock ≤ u.clock → s.accepted ≤ u.accepted → All (Old s) xs → All (Old u) xs
  old_later s u xs c a h = All-weaker (Old s) (Old u) (λ x k. (omega (arith, k.0), omega (arith, k.1))) xs h

  -- a stamped telegram goes behind t
  joins : (s u : State) (x : Telegram) (at : ℕ) (before mid : List Telegram) → Old s t → All (Old s) before → All (λ y. stands y t ≡ true) before → All (λ y. stands y t ≡ false) mid
      → s.clock ≤ at → at ≤ x.release → x.number ≡ s.accepted → u.clock ≡ at → u.accepted ≡ s.accepted + 1 → u.held ≡ insert stands x (before ++ (t ∷ mid)) → l.slack ≤ length mid + 1
      → Waiting l t u before (insert stands x mid)
  joins s u x at before mid old olds front back c r num clock acc held len =
      let behind : (v : Telegram) → Old s v → stands x v ≡ false = λ v o. stands_after x v (omega (arith, o.0)) (omega (arith, o.1)) in
      let past = insert_after stands x before (t ∷ mid) (All-weaker (Old s) (λ v. stands x v ≡ false) behind before olds) in
      record {
        held = held ∙ past ∙ ap (λ v. before ++ v) (insert_past stands x t mid (behind t old));
        slack = omega (arith, length_insert stands x mid);
        old = (omega (arith, old.0), omega (arith, old.1));
        old_before = old_later s u before (omega arith) (omega arith) olds;
        no_later = front;
        after_it = all_insert stands (λ y. stands y t ≡ false) x mid (behind t old) back;
      }

  stays_same : (s u : State) (before after : List Telegram) → Waiting l t s before after → u ≡ s → Stays l t before 0 u
  stays_same s u before after w e = (before, after, omega arith, subst (λ v. Waiting l t v before after) (sym e) w)

  -- what is displaced stands after t: too many stand after t for anything else
  displaced_after : (s : State) (d : Telegram) (before after : List Telegram) → Waiting l t s before after → later_than stands d s.held < l.slack → stands d t ≡ false
  displaced_after s d before after w near =
      ⊎_elim
      (λ (e : stands d t ≡ true).
      let apart : (y : Telegram) → stands y t ≡ false → stands y d ≡ false
      = λ y f. ⊎_elim (λ (k : stands y d ≡ true). absurd (both_ways (stands y t) f (linear.trans y d t k e))) (λ (k : stands y d ≡ false). k) (cases_Bool (stands y d)) in
      let many = later_end stands d (before ++ (t ∷ [])) after (All-weaker (λ y. stands y t ≡ false) (λ y. stands y d ≡ false) apart after w.after_it) in
      let whole : s.held ≡ (before ++ (t ∷ [])) ++ after = w.held ∙ sym (append_assoc before (t ∷ []) after) in
      absurd (omega (arith, many, ap (later_than stands d) whole, w.slack)))
      (λ (e : stands d t ≡ false). e)
      (cases_Bool (stands d t))

  enters : (s u : State) (x : Telegram) (o : Option Telegram) (at : ℕ) (before after : List Telegram) → Waiting l t s before after → s.clock ≤ at → at ≤ x.release
      → x.number ≡ s.accepted → u.clock ≡ at → u.accepted ≡ s.accepted + 1 → Puts stands blank (λ h. h) (λ _. l.capacity) (λ _. l.slack) s.held x (Ok (put_of o)) u.held → Stays l t before 0 u
  enters s u x None at before after w c r num clock acc e = (
    before,
    insert stands x after,
    omega arith,
    joins s u x at before after w.old w.old_before w.no_later w.after_it c r num clock acc (e.2 ∙ ap (insert stands x) w.held) (omega (arith, w.slack)),
  )
  enters s u x (Some d) at before after w c r num clock acc e =
      let out = e.2 in
      let apart = displaced_after s d before after w out.near in
      let behind : (y : Telegram) → stands y t ≡ true → stands d y ≡ false
      = λ y f. ⊎_elim (λ (k : stands d y ≡ true). absurd (both_ways (stands d t) apart (linear.trans d y t k f))) (λ (k : stands d y ≡ false). k) (cases_Bool (stands d y)) in
      let front = All-append (λ y. stands d y ≡ false) before (t ∷ []) (All-weaker (λ y. stands y t ≡ true) (λ y. stands d y ≡ false) behind before w.no_later) (apart, tt) in
      let whole : insert stands d out.rest ≡ (before ++ (t ∷ [])) ++ after = sym out.was ∙ w.held ∙ sym (append_assoc before (t ∷ []) after) in
      let p = without_behind stands linear d (before ++ (t ∷ [])) after out.rest front whole in
      let mid = p.0 in
      let left : out.rest ≡ before ++ (t ∷ mid) = p.1 ∙ append_assoc before (t ∷ []) mid in
      let long = ap length p.2 ∙ length_insert stands d mid in
      let back = (all_insert_back stands (λ y. stands y t ≡ false) d mid (subst (All (λ y. stands y t ≡ false)) p.2 w.after_it)).1 in
      (before, insert stands x mid, omega arith, joins s u x at before mid w.old w.old_before w.no_later back c r num clock acc (out.is ∙ ap (insert stands x) left) (omega (arith, w.slack, long)))

  -- the first leaves: t itself, or the first before it
  leaves : (s : State) (d : Telegram) (rest before after : List Telegram) → Waiting l t s before after → s.held ≡ d ∷ rest
      → ((length before ≡ 0) × (d ≡ t)) ⊎ ((before' : List Telegram) × (length before ≡ 1 + length before') × (rest ≡ before' ++ (t ∷ after)) × All (Old s) before' × All (λ y. stands y t ≡ true) before')
  leaves s d rest [] after w e = let h = w.held in inl (refl, cc)
  leaves s d rest (b ∷ bs) after w e = let h = w.held in inr (bs, omega arith, (cc), w.old_before.1, w.no_later.1)

  waits : (s : State) (e : Entry) (u : State) (before after : List Telegram) → Waiting l t s before after → Step l s e u → Goes t before e ⊎ Stays l t before (length (departed_by e)) u
  waits s (admit at row bytes handle (Ok a)) u before after w r =
      let p = admit_passes l s at row bytes r.passes in
      let q = r.stamped in
      inr (enters s u a.telegram a.displaced at before after w p.in_time (omega (arith, q.release_is)) q.number_is q.clock q.accepted r.enters)
  waits s (admit at row bytes handle (Err e)) u before after w r = inr (stays_same s u before after w r.same)
  waits s (release at (Ok d)) u before after w r =
      let c = (release_passes s at r.passes).0 in
      ⊎_elim (λ g. inl (g.0, ap (λ x. x ∷ []) g.1))
      (λ g. inr (
        g.0,
        after,
        g.1,
        record {
          held = g.2;
          slack = w.slack;
          old = (omega (arith, w.old.0, r.clock), omega (arith, w.old.1, r.accepted));
          old_before = old_later s u g.0 (omega (arith, r.clock)) (omega (arith, r.accepted)) g.3;
          no_later = g.4;
          after_it = w.after_it;
        },
      ))
      (leaves s d u.held before after w r.leaves.0)
  waits s (release at (Err e)) u before after w r = inr (stays_same s u before after w r.same)
  waits s (exchange at row bytes handle (Ok a)) u before after w r =
      let p = (exchange_passes l s at row bytes r.passes).0 in
      let q = r.stamped in
      let out = r.trades.1 in
      ⊎_elim (λ g. inl (g.0, ap (λ x. x ∷ []) g.1))
      (λ g. inr (
        g.0,
        insert stands a.telegram after,
        g.1,
        joins s u a.telegram at g.0 after w.old g.3 g.4 w.after_it p.in_time (omega (arith, q.release_is)) q.number_is q.clock q.accepted
            (out.is ∙ ap (insert stands a.telegram) g.2) (omega (arith, w.slack)),
      ))
      (leaves s a.departed out.rest before after w out.was)
  waits s (exchange at row bytes handle (Err e)) u before after w r = inr (stays_same s u before after w r.same)
  waits s (forecast at row lengths times answer times') u before after w r = inr (stays_same s u before after w (forecast_same s at row lengths times answer times' u r))

  pub turned : {s : State} {later : List Entry} {end : State} (before after : List Telegram) → Waiting l t s before after → Steps l s later end → Turned t before later end
  turned before after w (done {s = s}) = inr (omega arith, subst (λ h. 1 ≤ times_in t h) (sym w.held) (count_stands stands linear t before after))
  turned before after w (next {s = s} {u = u} {s' = s'} {e = e} {es = es} step rest) =
      let parts = telegrams_append (departed_by e) (departures_in es) in
      ⊎_elim
      (λ g.
      let all : departed_in (e ∷ es) ≡ t ∷ departed_in es = parts ∙ ap (λ v. v ++ departed_in es) g.1 in
      inl (omega (arith, g.0, ap length all), λ d. ap (λ k. get_or (departed_in (e ∷ es)) k d) g.0 ∙ ap (λ v. get_or v 0 d) all))
      (λ g.
      let long = length_telegrams (departed_by e) in
      let all-long = ap length parts ∙ length-append (telegrams (departed_by e)) (departed_in es) in
      let place : length before ≡ length (telegrams (departed_by e)) + length g.0 = omega (arith, g.2) in
      ⊎_elim
      (λ k. inl (
        omega (arith, k.0),
        λ d. ap (λ i. get_or (departed_in (e ∷ es)) i d) place ∙ ap (λ v. get_or v (length (telegrams (departed_by e)) + length g.0) d) parts ∙ get_or-append-add (telegrams (departed_by e)) (departed_in es) (length g.0) d ∙ k.1 d,
      ))
      (λ k. inr (omega (arith, k.0), k.1))
      (turned g.0 g.1 g.3 rest))
      (waits s e u before after w step)

  pub no_wait : {s : State} {later : List Entry} {end : State} (before after : List Telegram) → Waiting l t s before after → Steps l s later end
      → (first rest : List Entry) (at : ℕ) (f : ShowFault) → later ≡ first ++ (release at (Err f) ∷ rest) → length (departed_in first) ≤ length before → number f ≡ 1
  no_wait before after w done [] rest at f e low = let z : ◌≡◌ {A = ℕ} 0 1 = cc in absurd (omega arith)
  no_wait before after w done (y ∷ ys) rest at f e low = let z : ◌≡◌ {A = ℕ} 0 1 = cc in absurd (omega arith)
  no_wait before after w (next {s = s} {u = u} {e = x} {es = es} step steps) [] rest at f e low =
      let is : x ≡ release at (Err f) = cc in
      let r = subst (λ y. Step l s y u) is step in
      refused_by_1 s at f before after w r.by
  no_wait before after w (next {s = s} {u = u} {e = x} {es = es} step steps) (y ∷ ys) rest at f e low =
      let is : x ≡ y = cc in
      let tail : es ≡ ys ++ (release at (Err f) ∷ rest) = cc in
      let more = ap length (telegrams_append (departed_by y) (departures_in ys)) ∙ length-append (telegrams (departed_by y)) (departed_in ys) in
      let same-one = ap (λ v. length (telegrams (departed_by v))) is in
      let long = length_telegrams (departed_by x) in
      ⊎_elim (λ g. absurd (omega (arith, g.0, ap length g.1)))
      (λ g. no_wait g.0 g.1 g.3 steps ys rest at f tail (omega (arith, g.2)))
      (waits s x u before after w step)
