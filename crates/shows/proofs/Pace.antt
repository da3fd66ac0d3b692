-- A row keeps its pace: its time moves on by the cost of each telegram, and nothing departs before its release.
use Rattle.std.proofs.Common.{◌≡◌, ℕ, ◌+◌, ◌*◌, ◌<◌, ◌≤◌, max, Bool, true, false, cond, eqb, ◌⊎◌, List, [], ◌∷◌, ◌++◌, length, get_or, Ok, Err, sym, refl, ap, ◌∙◌, subst, inl, inr, ⊎_elim, arith}
use Rattle.std.specs.List.{AllByRecursion as All}
use Rattle.std.proofs.lemmas.List.{get_or-set_same, get_or-set_other, get_or_past}
use Rattle.std.proofs.ByRecursion.{All-append}
use Rattle.std.proofs.lemmas.Bool.{cases_eq, cases_lt, both_ways, eqb-true}
use Rattle.records.specs.declared.telegram.Telegram.{Telegram}
use Rattle.shows.specs.Timing.{no_row, is_set, card_pace, cost, row_after}
use Rattle.shows.specs.Calls.{Limits, State, row_at, Stamps}
use Rattle.shows.specs.Histories.{Setting, started, Entry, admit, release, exchange, forecast, Step, Steps, done, next, accepted_by, accepted_in, departed_by, departures_in}
use Rattle.shows.specs.Accounts.{price, prices}
use Rattle.shows.specs.declared.row.Row.{Row}
use Rattle.shows.proofs.Refusals.{admit_passes, release_passes, exchange_passes, first_due, forecast_same}

abbrev pub time_at : State → ℕ → ℕ
time_at s k = (row_at s k).time

-- from s to v the rows keep their paces, and their times do not fall
pub record Kept (s v : State) : Type 0 where
  pub paces : (k : ℕ) → card_pace (row_at v k) ≡ card_pace (row_at s k)
  pub times : (k : ℕ) → time_at s k ≤ time_at v k

kept_same : (s v : State) → v.rows ≡ s.rows → Kept s v
kept_same s v e = record {
  paces = λ k. ap (λ rows. card_pace (get_or rows k no_row)) e;
  times = λ k. omega (arith, ap (λ rows. (get_or rows k no_row).time) e);
}

set_within : (rows : List Row) (k : ℕ) → is_set (get_or rows k no_row) ≡ true → k < length rows
set_within rows k h = ⊎_elim (λ low. low) (λ past. absurd (both_ways false refl (sym (ap is_set (get_or_past rows k no_row past)) ∙ h))) (cases_lt k (length rows))

-- x was taken in on its row's time, which moved on by its cost
abbrev pub Sent : State → Telegram → State → Type 0
Sent s x v = (time_at s x.row ≤ x.release) × (x.release + cost (row_at s x.row) x.length ≤ time_at v x.row)

module _ (s : State) (at row bytes handle : ℕ) (x : Telegram) (v : State) (set-row : is_set (row_at s row) ≡ true) (q : Stamps s at row bytes handle x v) where
  stamped_here : row_at v row ≡ row_after (row_at s row) at bytes
  stamped_here = ap (λ rows. get_or rows row no_row) q.rows ∙ get_or-set_same s.rows row _ no_row (set_within s.rows row set-row)

  stamped_there : (k : ℕ) → (k ≡ row → ⊥) → row_at v k ≡ row_at s k
  stamped_there k d = ap (λ rows. get_or rows k no_row) q.rows ∙ get_or-set_other s.rows row k _ no_row d

  stamped_time : time_at v row ≡ max (time_at s row) at + cost (row_at s row) bytes
  stamped_time = ap (λ r. r.time) stamped_here

  stamped_kept : Kept s v
  stamped_kept = record {
    paces = λ k. ⊎_elim
        (λ e. subst (λ i. card_pace (row_at v i) ≡ card_pace (row_at s i)) (sym e) (ap card_pace stamped_here))
        (λ d. ap card_pace (stamped_there k d)) (cases_eq k row);
    times = λ k. ⊎_elim
        (λ e. subst (λ i. time_at s i ≤ time_at v i) (sym e) (omega (arith, stamped_time)))
        (λ d. omega (arith, ap (λ r. r.time) (stamped_there k d))) (cases_eq k row);
  }

  stamped_sent : Sent s x v
  stamped_sent =
      subst (λ i. (time_at s i ≤ x.release) × (x.release + cost (row_at s i) x.length ≤ time_at v i)) (sym q.row_is)
      (omega (arith, q.release_is), omega (arith, q.release_is, stamped_time, ap (cost (row_at s row)) q.length_is))

abbrev pub Sends : State → Entry → State → Type 0
Sends s e v = (accepted_by e ≡ []) ⊎ ((x : Telegram) × (accepted_by e ≡ x ∷ []) × Sent s x v)

module _ (l : Limits) where
  kept_refused : (s v : State) → v ≡ s → Kept s v
  kept_refused s v e = kept_same s v (ap (λ x. x.rows) e)

  sends : (s : State) (e : Entry) (v : State) → Step l s e v → Kept s v × Sends s e v
  sends s (admit at row bytes handle (Ok a)) v r =
      let p = (admit_passes l s at row bytes r.passes).row_set in
      (stamped_kept s at row bytes handle a.telegram v p r.stamped, inr (a.telegram, refl, stamped_sent s at row bytes handle a.telegram v p r.stamped))
  sends s (admit at row bytes handle (Err e)) v r = (kept_refused s v r.same, inl refl)
  sends s (release at (Ok t)) v r = (kept_same s v r.rows, inl refl)
  sends s (release at (Err e)) v r = (kept_refused s v r.same, inl refl)
  sends s (exchange at row bytes handle (Ok a)) v r =
      let p = (exchange_passes l s at row bytes r.passes).0.row_set in
      (stamped_kept s at row bytes handle a.telegram v p r.stamped, inr (a.telegram, refl, stamped_sent s at row bytes handle a.telegram v p r.stamped))
  sends s (exchange at row bytes handle (Err e)) v r = (kept_refused s v r.same, inl refl)
  sends s (forecast at row lengths times answer times') v r = (kept_refused s v (forecast_same s at row lengths times answer times' v r), inl refl)

  module _ (settings : List Setting) where
    -- the rows of s have the paces that they were set to
    abbrev AsSet : State → Type 0
    AsSet s = (k : ℕ) → card_pace (row_at s k) ≡ card_pace (row_at (started settings) k)

    as_set_later : (s v : State) → AsSet s → Kept s v → AsSet v
    as_set_later s v h k i = k.paces i ∙ h i

    price_at : (s : State) (x : Telegram) → AsSet s → cost (row_at s x.row) x.length ≡ price settings x
    price_at s x h = ap (λ p. x.length * p) (h x.row)

    no_end : (xs : List Telegram) (u : Telegram) (after : List Telegram) → [] ≡ xs ++ (u ∷ after) → ⊥
    no_end [] u after e = let z : ◌≡◌ {A = ℕ} 0 1 = cc in omega arith
    no_end (x ∷ xs) u after e = let z : ◌≡◌ {A = ℕ} 0 1 = cc in omega arith

    -- the row's time before the call that took x in, given what holds after it
    first_sent : (s v : State) (x : Telegram) (xs mid : List Telegram) (u : Telegram) (after : List Telegram) → AsSet s → Kept s v → Sent s x v
        → x ∷ xs ≡ mid ++ (u ∷ after)
        → ((mid' : List Telegram) → xs ≡ mid' ++ (u ∷ after) → time_at v u.row + prices settings u.row mid' ≤ u.release)
        → time_at s u.row + prices settings u.row mid ≤ u.release
    first_sent s v x xs [] u after h k g e ih =
        let is : x ≡ u = cc in
        let free = subst (λ y. time_at s y.row ≤ y.release) is g.0 in
        omega arith
    first_sent s v x xs (y ∷ ys) u after h k g e ih = go (eqb y.row u.row) refl
      where
        is : x ≡ y
        is = cc

        sent : Sent s y v
        sent = subst (λ z. Sent s z v) is g

        later : time_at v u.row + prices settings u.row ys ≤ u.release
        later = let tail : xs ≡ ys ++ (u ∷ after) = cc in ih ys tail

        go : (b : Bool) → eqb y.row u.row ≡ b → time_at s u.row + (cond b (price settings y) 0 + prices settings u.row ys) ≤ u.release
        go true f =
            let one = eqb-true y.row u.row f in
            omega (arith, later, sent.0, sent.1, price_at s y h, ap (time_at s) one, ap (time_at v) one)
        go false f = omega (arith, later, k.times u.row)

    -- the time of a row, and what its telegrams until u cost, are past at u's release
    later_release : {s : State} {es : List Entry} {end : State} (mid : List Telegram) (u : Telegram) (after : List Telegram) → AsSet s → Steps l s es end
        → accepted_in es ≡ mid ++ (u ∷ after) → time_at s u.row + prices settings u.row mid ≤ u.release
    later_release mid u after h done e = absurd (no_end mid u after e)
    later_release mid u after h (next {s = s} {u = v} {e = x} {es = es} step rest) e =
        let k = sends s x v step in
        let ih : (mid' : List Telegram) → accepted_in es ≡ mid' ++ (u ∷ after) → time_at v u.row + prices settings u.row mid' ≤ u.release
        = λ mid' e'. later_release mid' u after (as_set_later s v h k.0) rest e' in
        ⊎_elim
        (λ n. omega (arith, ih mid (sym (ap (λ a. a ++ accepted_in es) n) ∙ e), k.0.times u.row))
        (λ g. first_sent s v g.0 (accepted_in es) mid u after h k.0 g.2 (sym (ap (λ a. a ++ accepted_in es) g.1) ∙ e) ih)
        k.1

    pub spaced : {s : State} {es : List Entry} {end : State} (before : List Telegram) (t : Telegram) (between : List Telegram) (u : Telegram) (after : List Telegram) → AsSet s → Steps l s es end
        → accepted_in es ≡ before ++ (t ∷ (between ++ (u ∷ after))) → u.row ≡ t.row → t.release + price settings t + prices settings t.row between ≤ u.release
    spaced before t between u after h done e same_row = absurd (no_end before t (between ++ (u ∷ after)) e)
    spaced [] t between u after h (next {s = s} {u = v} {e = x} {es = es} step rest) e same_row =
        let k = sends s x v step in
        let h' = as_set_later s v h k.0 in
        ⊎_elim
        (λ n. spaced [] t between u after h' rest (sym (ap (λ a. a ++ accepted_in es) n) ∙ e) same_row)
        (λ g.
        let all = sym (ap (λ a. a ++ accepted_in es) g.1) ∙ e in
        let is : g.0 ≡ t = cc in
        let tail : accepted_in es ≡ between ++ (u ∷ after) = cc in
        let sent = subst (λ z. Sent s z v) is g.2 in
        omega (arith, sent.1, price_at s t h, later_release between u after h' rest tail, ap (time_at v) same_row, ap (λ i. prices settings i between) same_row))
        k.1
    spaced (y ∷ ys) t between u after h (next {s = s} {u = v} {e = x} {es = es} step rest) e same_row =
        let k = sends s x v step in
        let h' = as_set_later s v h k.0 in
        ⊎_elim
        (λ n. spaced (y ∷ ys) t between u after h' rest (sym (ap (λ a. a ++ accepted_in es) n) ∙ e) same_row)
        (λ g.
        let all = sym (ap (λ a. a ++ accepted_in es) g.1) ∙ e in
        let tail : accepted_in es ≡ ys ++ (t ∷ (between ++ (u ∷ after))) = cc in
        spaced ys t between u after h' rest tail same_row)
        k.1

  -- nothing departs before its release
  on_time_step : (s : State) (e : Entry) (v : State) → Step l s e v → All (λ d. d.telegram.release ≤ d.time) (departed_by e)
  on_time_step s (admit at row bytes handle answer) v r = tt
  on_time_step s (release at (Ok t)) v r = (first_due t v.held s.held at r.leaves.0 (release_passes s at r.passes).1, tt)
  on_time_step s (release at (Err e)) v r = tt
  on_time_step s (exchange at row bytes handle (Ok a)) v r = let q = r.trades.1 in (first_due a.departed q.rest s.held at q.was (exchange_passes l s at row bytes r.passes).1, tt)
  on_time_step s (exchange at row bytes handle (Err e)) v r = tt
  on_time_step s (forecast at row lengths times answer times') v r = tt

  pub on_time : {s : State} {es : List Entry} {end : State} → Steps l s es end → All (λ d. d.telegram.release ≤ d.time) (departures_in es)
  on_time done = tt
  on_time (next {s = s} {u = u} {e = e} {es = es} step rest) = All-append (λ d. d.telegram.release ≤ d.time) (departed_by e) (departures_in es) (on_time_step s e u step) (on_time rest)
