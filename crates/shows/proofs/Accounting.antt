-- Every history of a show accounts for its telegrams.
use Rattle.std.proofs.Common.{◌≡◌, ◌<◌, ◌≤◌, true, List, [], ◌∷◌, ◌++◌, length, sym, refl, ap, subst, ⊎_elim, arith}
use Rattle.std.specs.List.{AllByRecursion as All}
use Rattle.std.proofs.ByRecursion.{all-has}
use Rattle.records.specs.Sorting.{Ascending}
use Rattle.records.specs.Telegrams.{stands}
use Rattle.records.specs.declared.telegram.Telegram.{Telegram}
use Rattle.records.specs.TelegramsLemmas.{linear}
use Rattle.shows.specs.Calls.{Limits, State}
use Rattle.shows.specs.Histories.{Setting, started, Entry, History, accepted_in, departed_in, displaced_in}
use Rattle.shows.specs.Accounts.{times_in, Balanced, Paced, Fair, report_of, AccountsHold}
use Rattle.shows.proofs.Inserting.{all_front, all_back, ascending_back, before_no_later, count_append, one_self, count_stands, none_again}
use Rattle.shows.proofs.Newcomers.{stands_release}
use Rattle.shows.proofs.Ledger.{Below, Sound, Moved, moved_steps, at_most_once, none_above}
use Rattle.shows.proofs.Pace.{spaced, on_time}
use Rattle.shows.proofs.Turns.{Old, Waiting, turned, no_wait, count_at}

-- those that stand no later than a telegram that is due are due
all_old : (s : State) (t : Telegram) (xs : List Telegram) → t.release ≤ s.clock → All (λ u. stands u t ≡ true) xs → Below s.accepted xs → All (Old s) xs
all_old s t [] due h k = tt
all_old s t (x ∷ xs) due h k = ((omega (arith, stands_release x t h.0), k.0), all_old s t xs due h.1 k.1)

module _ (l : Limits) (settings : List Setting) where
  sound_started : Sound (started settings)
  sound_started = record { all = refl; limit = omega arith; ascends = tt; below = tt }

  moved : {es : List Entry} {s : State} → History l settings es s → Moved (started settings) (accepted_in es) (departed_in es) (displaced_in es) s
  moved h = moved_steps l sound_started h

  pub balanced : (es : List Entry) (end : State) → History l settings es end → Balanced es end.held (report_of end)
  balanced es end h =
      let k = moved h in
      let whole = k.sound.all in
      let limit = k.sound.limit in
      record {
        each = λ t. omega (arith, k.flow t);
        once = λ t. at_most_once t 0 (accepted_in es) k.numbered;
        accepted = omega (arith, k.accepted);
        departed = omega (arith, k.departed);
        displaced = omega (arith, k.displaced);
        held_count = omega arith;
        total = omega arith;
      }

  pub paced : (es : List Entry) (end : State) → History l settings es end → Paced settings es
  paced es end h before between after t u time e same_row left =
      let r = spaced l settings before t between u after (λ k. refl) h e same_row in
      let d = all-has (λ d. d.telegram.release ≤ d.time) _ _ (on_time l h) left in
      omega arith

  -- a telegram that is held, due and has slack after it waits for its turn
  waiting : {earlier : List Entry} {s : State} (t : Telegram) (before after : List Telegram) → History l settings earlier s → s.held ≡ before ++ (t ∷ after) → t.release ≤ s.clock → l.slack ≤ length after → Waiting l t s before after
  waiting {earlier} {s} t before after h held due slack =
      let k = moved h in
      let most = at_most_once t 0 (accepted_in earlier) k.numbered in
      let flow = k.flow t in
      let ascends = subst (Ascending stands) held k.sound.ascends in
      let below = subst (Below s.accepted) held k.sound.below in
      let front = before_no_later stands before t after ascends in
      let none : times_in t after ≡ 0 = omega (arith, ap (times_in t) held, count_append stands t before (t ∷ after), one_self stands linear t) in
      record {
        held = held;
        slack = slack;
        old = (due, (all_back (λ u. u.number < s.accepted) before (t ∷ after) below).0);
        old_before = all_old s t before due front (all_front (λ u. u.number < s.accepted) before (t ∷ after) below);
        no_later = front;
        after_it = none_again stands linear t after (ascending_back stands before (t ∷ after) ascends).0 none;
      }

  pub fair : (es : List Entry) (end : State) → Fair l settings es end
  fair es end earlier later s t before after cut h steps held due slack =
      let w = waiting t before after h held due slack in
      let k = moved h in
      let n = moved_steps l k.sound steps in
      let one : 1 ≤ times_in t s.held = subst (λ v. 1 ≤ times_in t v) (sym held) (count_stands stands linear t before after) in
      let most = at_most_once t 0 (accepted_in earlier) k.numbered in
      let new = none_above t s.accepted (accepted_in later) w.old.1 n.numbered in
      let flow = n.flow t in
      let flow-before = k.flow t in
      let wait = no_wait l t before after w steps in
      ⊎_elim
      (λ g.
      let there = count_at t (departed_in later) (length before) g.0 g.1 in
      record { never_displaced = omega arith; in_turn = λ _. (g.1, omega arith); still_held = λ short. absurd (omega (arith, g.0)); no_wait = wait })
      (λ g.
      let there = g.1 in
      record { never_displaced = omega arith; in_turn = λ far. absurd (omega (arith, g.0)); still_held = λ _. (omega arith, omega arith); no_wait = wait })
      (turned l t before after w steps)

pub accounts_hold : AccountsHold
accounts_hold l settings es end h = record { balanced = balanced l settings es end h; paced = paced l settings es end h; fair = fair l settings es end }
