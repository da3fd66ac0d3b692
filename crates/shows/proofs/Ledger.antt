-- Nothing is lost, doubled or made up: how each call moves the telegrams and the counts.
use Rattle.std.proofs.Common.{◌≡◌, ℕ, ◌+◌, ◌<◌, ◌≤◌, Bool, true, false, cond, List, [], ◌∷◌, ◌++◌, length, Some, None, Ok, Err, Option, sym, refl, ap, ◌∙◌, subst, ⊎_elim, arith}
use Rattle.std.specs.Option.{option_to_list}
use Rattle.std.specs.List.{AllByRecursion as All}
use Rattle.std.proofs.lemmas.List.{length-append}
use Rattle.std.proofs.ByRecursion.{All-weaker}
use Rattle.std.proofs.lemmas.Bool.{cases_eq}
use Rattle.records.specs.Sorting.{insert, Ascending, same}
use Rattle.records.specs.Telegrams.{stands, blank}
use Rattle.records.specs.declared.telegram.Telegram.{Telegram}
use Rattle.records.proofs.Sorting.{length_insert, all_insert, all_insert_back, ascending_insert}
use Rattle.records.specs.TelegramsLemmas.{linear}
use Rattle.queues.specs.Queues.{Puts, put_of}
use Rattle.shows.specs.Calls.{Limits, State, count_limit, one_more, counted, Released}
use Rattle.shows.specs.Histories.{Entry, admit, release, exchange, forecast, Departure, Step, Steps, done, next, telegrams, accepted_by, departed_by, displaced_by, departures_in, accepted_in, departed_in, displaced_in}
use Rattle.shows.specs.Accounts.{times_in}
use Rattle.shows.proofs.Inserting.{count_append, count_insert, ascending_without}
use Rattle.shows.proofs.Newcomers.{other_number}
use Rattle.shows.proofs.Refusals.{admit_passes, exchange_passes, forecast_same}

-- telegrams that bear the numbers n, n + 1, ..
abbrev pub Numbered : ℕ → List Telegram → Type 0
Numbered n [] = Unit {0}
Numbered n (t ∷ ts) = (t.number ≡ n) × Numbered (n + 1) ts

abbrev pub Below : ℕ → List Telegram → Type 0
Below n ts = All (λ u. u.number < n) ts

-- what holds of a show between calls
pub record Sound (s : State) : Type 0 where
  pub all : s.accepted ≡ s.departed + s.displaced + length s.held
  pub limit : s.accepted ≤ count_limit
  pub ascends : Ascending stands s.held
  pub below : Below s.accepted s.held

-- from s to s' the telegrams acc were accepted, dep departed and dis were displaced
pub record Moved (s : State) (acc dep dis : List Telegram) (s' : State) : Type 0 where
  pub sound : Sound s'
  pub accepted : s'.accepted ≡ s.accepted + length acc
  pub departed : s'.departed ≡ s.departed + length dep
  pub displaced : s'.displaced ≡ s.displaced + length dis
  pub flow : (t : Telegram) → times_in t s.held + times_in t acc ≡ times_in t dep + times_in t dis + times_in t s'.held
  pub numbered : Numbered s.accepted acc

pub telegrams_append : (xs ys : List Departure) → telegrams (xs ++ ys) ≡ telegrams xs ++ telegrams ys
telegrams_append [] ys = refl
telegrams_append (x ∷ xs) ys = ap (λ l. x.telegram ∷ l) (telegrams_append xs ys)

moved_none : (s s' : State) → Sound s → s' ≡ s → Moved s [] [] [] s'
moved_none s s' h e =
    subst (λ x. Moved s [] [] [] x) (sym e) (record { sound = h; accepted = omega arith; departed = omega arith; displaced = omega arith; flow = λ t. omega arith; numbered = tt })

-- a stamped telegram joins what is left of the queue
module _ (s : State) (t : Telegram) (s' : State) (left : List Telegram) (num : t.number ≡ s.accepted) (more : s'.accepted ≡ s.accepted + 1) (held : s'.held ≡ insert stands t left) where
  joined_below : Below s.accepted left → Below s'.accepted s'.held
  joined_below h =
      let wider = All-weaker (λ u. u.number < s.accepted) (λ u. u.number < s.accepted + 1) (λ u k. omega arith) left h in
      subst (λ n. Below n s'.held) (sym more) (subst (Below (s.accepted + 1)) (sym held) (all_insert stands (λ u. u.number < s.accepted + 1) t left (omega arith) wider))

  joined_ascends : Ascending stands left → Ascending stands s'.held
  joined_ascends h = subst (Ascending stands) (sym held) (ascending_insert stands linear t left h)

  joined_length : length s'.held ≡ length left + 1
  joined_length = ap length held ∙ length_insert stands t left

  joined_count : (u : Telegram) → times_in u s'.held ≡ cond (same stands u t) 1 0 + times_in u left
  joined_count u = ap (times_in u) held ∙ count_insert stands u t left

module _ (l : Limits) where
  moved_enters : (s : State) (t : Telegram) (o : Option Telegram) (s' : State) → Sound s → t.number ≡ s.accepted → s.accepted < count_limit
      → s'.accepted ≡ s.accepted + 1 → s'.departed ≡ s.departed → s'.displaced ≡ counted o s.displaced
      → Puts stands blank (λ h. h) (λ _. l.capacity) (λ _. l.slack) s.held t (Ok (put_of o)) s'.held → Moved s (t ∷ []) [] (option_to_list o) s'
  moved_enters s t None s' h num low more dep dis e =
      let len = joined_length s t s' s.held num more e.2 in
      record {
        sound = record {
          all = omega (arith, h.all);
          limit = omega arith;
          ascends = joined_ascends s t s' s.held num more e.2 h.ascends;
          below = joined_below s t s' s.held num more e.2 h.below;
        };
        accepted = omega arith;
        departed = omega arith;
        displaced = omega arith;
        flow = λ u. omega (arith, joined_count s t s' s.held num more e.2 u);
        numbered = (num, tt);
      }
  moved_enters s t (Some d) s' h num low more dep dis e =
      let out = e.2 in
      let left = out.rest in
      let len = joined_length s t s' left num more out.is in
      let was = ap length out.was ∙ length_insert stands d left in
      record {
        sound = record {
          all = omega (arith, h.all, h.limit);
          limit = omega arith;
          ascends = joined_ascends s t s' left num more out.is (ascending_without stands d left (subst (Ascending stands) out.was h.ascends));
          below = joined_below s t s' left num more out.is (all_insert_back stands (λ u. u.number < s.accepted) d left (subst (Below s.accepted) out.was h.below)).1;
        };
        accepted = omega arith;
        departed = omega arith;
        displaced = omega (arith, h.all, h.limit);
        flow = λ u. omega (arith, joined_count s t s' left num more out.is u, ap (times_in u) out.was, count_insert stands u d left);
        numbered = (num, tt);
      }

  moved_released : (s : State) (at : ℕ) (t : Telegram) (s' : State) → Sound s → Released l s at t s' → Moved s [] (t ∷ []) [] s'
  moved_released s at t s' h r =
      let first = r.leaves.0 in
      let was = ap length first in
      record {
        sound = record {
          all = omega (arith, h.all, h.limit, r.departed, r.displaced, r.accepted);
          limit = omega (arith, h.limit, r.accepted);
          ascends = (subst (Ascending stands) first h.ascends).1;
          below = subst (λ n. Below n s'.held) (sym r.accepted) (subst (Below s.accepted) first h.below).1;
        };
        accepted = omega (arith, r.accepted);
        departed = omega (arith, h.all, h.limit, r.departed);
        displaced = omega (arith, r.displaced);
        flow = λ u. omega (arith, ap (times_in u) first);
        numbered = tt;
      }

  moved_exchanged : (s : State) (t d : Telegram) (rest : List Telegram) (s' : State) → Sound s → t.number ≡ s.accepted → s.accepted < count_limit
      → s'.accepted ≡ s.accepted + 1 → s'.departed ≡ one_more s.departed → s'.displaced ≡ s.displaced → s.held ≡ d ∷ rest → s'.held ≡ insert stands t rest → Moved s (t ∷ []) (d ∷ []) [] s'
  moved_exchanged s t d rest s' h num low more dep dis first held =
      let was = ap length first in
      let len = joined_length s t s' rest num more held in
      record {
        sound = record {
          all = omega (arith, h.all, h.limit);
          limit = omega arith;
          ascends = joined_ascends s t s' rest num more held (subst (Ascending stands) first h.ascends).1;
          below = joined_below s t s' rest num more held (subst (Below s.accepted) first h.below).1;
        };
        accepted = omega arith;
        departed = omega (arith, h.all, h.limit);
        displaced = omega arith;
        flow = λ u. omega (arith, ap (times_in u) first, joined_count s t s' rest num more held u);
        numbered = (num, tt);
      }

  pub moved_step : (s : State) (e : Entry) (s' : State) → Sound s → Step l s e s' → Moved s (accepted_by e) (telegrams (departed_by e)) (displaced_by e) s'
  moved_step s (admit at row bytes handle (Ok a)) s' h r =
      moved_enters s a.telegram a.displaced s' h r.stamped.number_is (admit_passes l s at row bytes r.passes).counted r.stamped.accepted r.departed r.displaced r.enters
  moved_step s (admit at row bytes handle (Err e)) s' h r = moved_none s s' h r.same
  moved_step s (release at (Ok t)) s' h r = moved_released s at t s' h r
  moved_step s (release at (Err e)) s' h r = moved_none s s' h r.same
  moved_step s (exchange at row bytes handle (Ok a)) s' h r =
      let q = r.trades.1 in
      moved_exchanged s a.telegram a.departed q.rest s' h r.stamped.number_is (exchange_passes l s at row bytes r.passes).0.counted r.stamped.accepted r.departed r.displaced q.was q.is
  moved_step s (exchange at row bytes handle (Err e)) s' h r = moved_none s s' h r.same
  moved_step s (forecast at row lengths times answer times') s' h r = moved_none s s' h (forecast_same s at row lengths times answer times' s' r)

numbered_append : (n : ℕ) (xs ys : List Telegram) → Numbered n xs → Numbered (n + length xs) ys → Numbered n (xs ++ ys)
numbered_append n [] ys h k = let e : n + 0 ≡ n = omega arith in subst (λ i. Numbered i ys) e k
numbered_append n (x ∷ xs) ys h k =
    let e : n + length (x ∷ xs) ≡ (n + 1) + length xs = omega arith in
    (h.0, numbered_append (n + 1) xs ys h.1 (subst (λ i. Numbered i ys) e k))

moved_then : (s u s' : State) (a d x a' d' x' : List Telegram) → Moved s a d x u → Moved u a' d' x' s' → Moved s (a ++ a') (d ++ d') (x ++ x') s'
moved_then s u s' a d x a' d' x' h k = record {
  sound = k.sound;
  accepted = omega (arith, h.accepted, k.accepted, length-append a a');
  departed = omega (arith, h.departed, k.departed, length-append d d');
  displaced = omega (arith, h.displaced, k.displaced, length-append x x');
  flow = λ t. omega (arith, h.flow t, k.flow t, count_append stands t a a', count_append stands t d d', count_append stands t x x');
  numbered = numbered_append s.accepted a a' h.numbered (subst (λ n. Numbered n a') h.accepted k.numbered);
}

pub moved_steps : (l : Limits) {s : State} {es : List Entry} {s' : State} → Sound s → Steps l s es s' → Moved s (accepted_in es) (departed_in es) (displaced_in es) s'
moved_steps l h (done {s = s}) = moved_none s s h refl
moved_steps l h (next {s = s} {u = u} {s' = s'} {e = e} {es = es} step rest) =
    let first = moved_step l s e u h step in
    subst (λ d. Moved s (accepted_in (e ∷ es)) d (displaced_in (e ∷ es)) s') (sym (telegrams_append (departed_by e) (departures_in es)))
    (moved_then s u s' (accepted_by e) (telegrams (departed_by e)) (displaced_by e) (accepted_in es) (departed_in es) (displaced_in es) first (moved_steps l first.sound rest))

-- a telegram that bears a number stands in no later numbers, and at most once in numbers one by one
pub none_above : (t : Telegram) (n : ℕ) (xs : List Telegram) → t.number < n → Numbered n xs → times_in t xs ≡ 0
none_above t n [] low h = refl
none_above t n (x ∷ xs) low h =
    let apart : t.number ≡ x.number → ⊥ = λ e. omega (arith, h.0) in
    rw (other_number t x apart) (omega (arith, none_above t (n + 1) xs (omega arith) h.1))

pub at_most_once : (t : Telegram) (n : ℕ) (xs : List Telegram) → Numbered n xs → times_in t xs ≤ 1
at_most_once t n [] h = omega arith
at_most_once t n (x ∷ xs) h =
    ⊎_elim (λ e. one (same stands t x) (none_above t (n + 1) xs (omega (arith, h.0)) h.1))
    (λ apart. rw (other_number t x apart) (omega (arith, at_most_once t (n + 1) xs h.1))) (cases_eq t.number x.number)
  where
    one : (b : Bool) → times_in t xs ≡ 0 → cond b 1 0 + times_in t xs ≤ 1
    one true k = omega arith
    one false k = omega arith
