-- What a reader of a release list can rely on, from its lines alone and what is held at the end.
use Rattle.std.specs.Prelude.{◌≡◌, ℕ, ◌+◌, ◌≤◌, Bool, true, false, List, ◌++◌, length, count_by, ◌==◌}
use Rattle.std.specs.List.{ContainsAt as Has}
use Rattle.records.specs.declared.telegram.Telegram.{Telegram}
use Rattle.wire.specs.declared.lines.Line.{Line}
use Rattle.wire.specs.declared.lines.Line.TheVariants.{Heading, Accepted, Displaced, Departed, Figure, Totals, Refused}

-- the telegrams that a reader picks, by number and row: none, any, or those of a number
abbrev pub no_telegram : ℕ → ℕ → Bool
no_telegram number row = false

abbrev pub any_telegram : ℕ → ℕ → Bool
any_telegram number row = true

abbrev pub numbered : ℕ → ℕ → ℕ → Bool
numbered n number row = number == n

-- the lines that a reader picks: A lines of some telegrams, D lines of others, X lines of others again
abbrev pub picked : (a d x : ℕ → ℕ → Bool) → Line → Bool
picked a d x Heading = false
picked a d x (Accepted number row release) = a number row
picked a d x (Displaced number row) = x number row
picked a d x (Departed number row at) = d number row
picked a d x (Figure n) = false
picked a d x (Totals accepted departed displaced held) = false
picked a d x (Refused number layer place) = false

-- how many A lines, D lines and X lines are of telegrams that a reader picks, and how many of these are held
abbrev pub a_lines : (ℕ → ℕ → Bool) → List Line → ℕ
a_lines pick lines = count_by (picked pick no_telegram no_telegram) lines

abbrev pub d_lines : (ℕ → ℕ → Bool) → List Line → ℕ
d_lines pick lines = count_by (picked no_telegram pick no_telegram) lines

abbrev pub x_lines : (ℕ → ℕ → Bool) → List Line → ℕ
x_lines pick lines = count_by (picked no_telegram no_telegram pick) lines

abbrev pub held_of : (ℕ → ℕ → Bool) → List Telegram → ℕ
held_of pick held = count_by (λ t. pick t.number t.row) held

-- the law of a list, with the telegrams that are held when it ends
pub record Readable (lines : List Line) (held : List Telegram) : Type 0 where
  -- every A line is answered by a D line or an X line, or its telegram is held: there are as many, of a number and row, of a row, of whatever a reader picks
  pub answered : (pick : ℕ → ℕ → Bool) → a_lines pick lines ≡ d_lines pick lines + x_lines pick lines + held_of pick held
  -- no two A lines bear one number
  pub once : (n : ℕ) → a_lines (numbered n) lines ≤ 1
  -- no telegram leaves before it was accepted: so it stands in every beginning of the list
  pub accepted_first : (pick : ℕ → ℕ → Bool) (front back : List Line) → lines ≡ front ++ back → d_lines pick front + x_lines pick front ≤ a_lines pick front
  -- a T line bears how many A, D and X lines the list has, and how many telegrams are held
  pub totals : (accepted departed displaced held_then : ℕ) → Has lines (Totals accepted departed displaced held_then)
      → (accepted ≡ a_lines any_telegram lines) × (departed ≡ d_lines any_telegram lines) × (displaced ≡ x_lines any_telegram lines) × (held_then ≡ length held)
  -- a D line is not before the release on the A line of its number
  pub on_time : (number row row' release at : ℕ) → Has lines (Accepted number row release) → Has lines (Departed number row' at) → release ≤ at
