-- The lines of events tell the telegrams of their calls.
use Rattle.std.proofs.Common.{◌≡◌, ℕ, ◌+◌, Bool, cond, List, [], ◌∷◌, ◌++◌, length, Some, None, Ok, Err, count_by, Option, refl, ap, arith}
use Rattle.std.specs.List.{flat_map, AllByRecursion as All}
use Rattle.std.specs.Option.{option_to_list}
use Rattle.std.proofs.ByRecursion.{All-append}
use Rattle.std.proofs.lemmas.List.Sums.{sum_by-append}
use Rattle.records.specs.declared.telegram.Telegram.{Telegram}
use Rattle.shows.proofs.Inserting.{all_front, all_back}
use Rattle.shows.proofs.Ledger.{telegrams_append}
use Rattle.shows.proofs.Tallies.{count_by_cons}
use Rattle.shows.specs.Histories.{Entry, admit, release, exchange, forecast, Departure, telegrams, accepted_by, departed_by, displaced_by, accepted_in, departures_in, departed_in, displaced_in}
use Rattle.shows.specs.declared.answer.Report.{Report}
use Rattle.wire.specs.declared.lines.Line.{Line}
use Rattle.wire.specs.declared.lines.Line.TheVariants.{Heading, Accepted, Displaced, Departed, Figure, Totals, Refused}
use Rattle.runs.specs.Events.{Event, sets, starts, calls, closes, offers, figures, refuses, accepted_line, displaced_line, entry_lines, totals_line, lines_of, entries_in, reports_in}
use Rattle.runs.specs.Faults as faults
use Rattle.runs.specs.Readers.{no_telegram, any_telegram, picked, a_lines, d_lines, x_lines, held_of}

pub held_none : (ts : List Telegram) → held_of no_telegram ts ≡ 0
held_none [] = refl
held_none (t ∷ ts) = omega (arith, count_by_cons (λ (u : Telegram). no_telegram u.number u.row) t ts, held_none ts)

pub held_any : (ts : List Telegram) → held_of any_telegram ts ≡ length ts
held_any [] = refl
held_any (t ∷ ts) = omega (arith, count_by_cons (λ (u : Telegram). any_telegram u.number u.row) t ts, held_any ts)

-- ---- how many lines
module _ (a d x : ℕ → ℕ → Bool) where
  held_append : (pick : ℕ → ℕ → Bool) (ts us : List Telegram) → held_of pick (ts ++ us) ≡ held_of pick ts + held_of pick us
  held_append pick ts us = sum_by-append (λ (t : Telegram). cond (pick t.number t.row) 1 0) ts us

  admit_told : (t : Telegram) (o : Option Telegram) → count_by (picked a d x) (accepted_line t ∷ displaced_line o) ≡ held_of a (t ∷ []) + held_of x (option_to_list o)
  admit_told t None = omega arith
  admit_told t (Some u) = omega arith

  entry_told : (place : ℕ) (e : Entry) → count_by (picked a d x) (entry_lines place e) ≡ held_of a (accepted_by e) + held_of d (telegrams (departed_by e)) + held_of x (displaced_by e)
  entry_told place (admit at row bytes handle (Ok r)) = omega (arith, admit_told r.telegram r.displaced)
  entry_told place (admit at row bytes handle (Err e)) = omega arith
  entry_told place (release at (Ok t)) = omega arith
  entry_told place (release at (Err e)) = omega arith
  entry_told place (exchange at row bytes handle (Ok r)) = omega arith
  entry_told place (exchange at row bytes handle (Err e)) = omega arith
  entry_told place (forecast at row lengths times answer times') = omega arith

  pub lines_told : (xs : List (ℕ × Event)) → count_by (picked a d x) (flat_map lines_of xs) ≡ held_of a (accepted_in (entries_in xs)) + held_of d (departed_in (entries_in xs)) + held_of x (displaced_in (entries_in xs))
  lines_told [] = omega arith
  lines_told ((place, sets s) ∷ xs) = lines_told xs
  lines_told ((place, starts) ∷ xs) = lines_told xs
  lines_told ((place, calls e) ∷ xs) =
      let es = entries_in xs in
      omega (
        arith,
        sum_by-append (λ line. cond (picked a d x line) 1 0) (entry_lines place e) (flat_map lines_of xs),
        entry_told place e,
        lines_told xs,
        held_append a (accepted_by e) (accepted_in es),
        ap (held_of d) (telegrams_append (departed_by e) (departures_in es)),
        held_append d (telegrams (departed_by e)) (departed_in es),
        held_append x (displaced_by e) (displaced_in es),
      )
  lines_told ((place, closes r) ∷ xs) = omega (arith, count_by_cons (picked a d x) (totals_line r) (flat_map lines_of xs), lines_told xs)
  lines_told ((place, offers) ∷ xs) = lines_told xs
  lines_told ((place, figures n) ∷ xs) = omega (arith, count_by_cons (picked a d x) (Figure n) (flat_map lines_of xs), lines_told xs)
  lines_told ((place, refuses e) ∷ xs) = omega (arith, count_by_cons (picked a d x) (Refused (faults.number e) (faults.layer e) place) (flat_map lines_of xs), lines_told xs)

module _ (pick : ℕ → ℕ → Bool) (xs : List (ℕ × Event)) where
  -- the lines of each letter under the heading
  pub a_told : a_lines pick (Heading ∷ flat_map lines_of xs) ≡ held_of pick (accepted_in (entries_in xs))
  a_told = omega (arith, count_by_cons (picked pick no_telegram no_telegram) Heading (flat_map lines_of xs), lines_told pick no_telegram no_telegram xs, held_none (departed_in (entries_in xs)), held_none (displaced_in (entries_in xs)))

  pub d_told : d_lines pick (Heading ∷ flat_map lines_of xs) ≡ held_of pick (departed_in (entries_in xs))
  d_told = omega (arith, count_by_cons (picked no_telegram pick no_telegram) Heading (flat_map lines_of xs), lines_told no_telegram pick no_telegram xs, held_none (accepted_in (entries_in xs)), held_none (displaced_in (entries_in xs)))

  pub x_told : x_lines pick (Heading ∷ flat_map lines_of xs) ≡ held_of pick (displaced_in (entries_in xs))
  x_told = omega (arith, count_by_cons (picked no_telegram no_telegram pick) Heading (flat_map lines_of xs), lines_told no_telegram no_telegram pick xs, held_none (accepted_in (entries_in xs)), held_none (departed_in (entries_in xs)))

-- ---- what each line says
module _ (A D : ℕ → ℕ → ℕ → Type 0) (T : ℕ → ℕ → ℕ → ℕ → Type 0) where
  -- what holds of the fields of the A lines, the D lines and the T lines
  abbrev pub Says : Line → Type 0
  Says Heading = Unit {0}
  Says (Accepted number row due) = A number row due
  Says (Displaced number row) = Unit {0}
  Says (Departed number row at) = D number row at
  Says (Figure n) = Unit {0}
  Says (Totals accepted departed displaced held) = T accepted departed displaced held
  Says (Refused number layer place) = Unit {0}

  -- of telegrams, departures and reports
  abbrev pub SaysAccepted : Telegram → Type 0
  SaysAccepted t = A t.number t.row t.release

  abbrev pub SaysDeparted : Departure → Type 0
  SaysDeparted d = D d.telegram.number d.telegram.row d.time

  abbrev pub SaysReported : Report → Type 0
  SaysReported r = T r.accepted r.departed r.displaced r.held

  displaced_says : (o : Option Telegram) → All Says (displaced_line o)
  displaced_says None = tt
  displaced_says (Some t) = (tt, tt)

  entry_says : (place : ℕ) (e : Entry) → All SaysAccepted (accepted_by e) → All SaysDeparted (departed_by e) → All Says (entry_lines place e)
  entry_says place (admit at row bytes handle (Ok r)) h k = (h.0, displaced_says r.displaced)
  entry_says place (admit at row bytes handle (Err e)) h k = (tt, tt)
  entry_says place (release at (Ok t)) h k = (k.0, tt)
  entry_says place (release at (Err e)) h k = (tt, tt)
  entry_says place (exchange at row bytes handle (Ok r)) h k = (k.0, (h.0, tt))
  entry_says place (exchange at row bytes handle (Err e)) h k = (tt, tt)
  entry_says place (forecast at row lengths times answer times') h k = tt

  pub lines_say : (xs : List (ℕ × Event)) → All SaysAccepted (accepted_in (entries_in xs)) → All SaysDeparted (departures_in (entries_in xs)) → All SaysReported (reports_in xs) → All Says (flat_map lines_of xs)
  lines_say [] h k r = tt
  lines_say ((place, sets s) ∷ xs) h k r = lines_say xs h k r
  lines_say ((place, starts) ∷ xs) h k r = lines_say xs h k r
  lines_say ((place, calls e) ∷ xs) h k r =
      let es = entries_in xs in
      All-append Says (entry_lines place e) (flat_map lines_of xs)
      (entry_says place e (all_front SaysAccepted (accepted_by e) (accepted_in es) h) (all_front SaysDeparted (departed_by e) (departures_in es) k))
      (lines_say xs (all_back SaysAccepted (accepted_by e) (accepted_in es) h) (all_back SaysDeparted (departed_by e) (departures_in es) k) r)
  lines_say ((place, closes x) ∷ xs) h k r = (r.0, lines_say xs h k r.1)
  lines_say ((place, offers) ∷ xs) h k r = lines_say xs h k r
  lines_say ((place, figures n) ∷ xs) h k r = (tt, lines_say xs h k r)
  lines_say ((place, refuses e) ∷ xs) h k r = (tt, lines_say xs h k r)
