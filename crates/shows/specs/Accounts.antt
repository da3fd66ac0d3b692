-- The law of a show: its history accounts for every telegram. What it says of a show that is closed after the calls of a history.
use Rattle.std.specs.Prelude.{◌≡◌, ℕ, ◌+◌, ◌<◌, ◌≤◌, cond, List, [], ◌∷◌, ◌++◌, length, Err, ◌==◌, slice_index_or}
use Rattle.std.specs.List.{ContainsAt as Has}
use Rattle.queues.specs.Queues.{told}
use Rattle.records.specs.Sorting.{count}
use Rattle.records.specs.Telegrams.{stands}
use Rattle.records.specs.declared.telegram.Telegram.{Telegram}
use Rattle.shows.specs.Faults.{number}
use Rattle.shows.specs.Timing.{cost}
use Rattle.shows.specs.Calls.{Limits, State, row_at}
use Rattle.shows.specs.Histories.{Setting, started, Entry, release, Steps, History, accepted_in, departures_in, displaced_in, departed_in}
use Rattle.shows.specs.declared.answer.Report.{Report}
use Rattle.shows.specs.declared.fault.ShowFault.{ShowFault}

-- how often a telegram, whole, stands in a list
abbrev pub times_in : Telegram → List Telegram → ℕ
times_in t ts = count stands t ts

-- (a) Nothing is lost, doubled or made up: every accepted telegram is exactly once among the departed, the displaced and the held, and nothing else is; and the report bears their numbers.
pub record Balanced (es : List Entry) (held : List Telegram) (report : Report) : Type 0 where
  pub each : (t : Telegram) → times_in t (accepted_in es) ≡ times_in t (departed_in es) + times_in t (displaced_in es) + times_in t held
  pub once : (t : Telegram) → times_in t (accepted_in es) ≤ 1
  pub accepted : report.accepted ≡ length (accepted_in es)
  pub departed : report.departed ≡ length (departed_in es)
  pub displaced : report.displaced ≡ length (displaced_in es)
  pub held_count : report.held ≡ length held
  pub total : report.accepted ≡ report.departed + report.displaced + report.held

-- what a telegram costs its row, by the card that the row was set to
abbrev pub price : List Setting → Telegram → ℕ
price settings t = cost (row_at (started settings) t.row) t.length

-- what the telegrams of a row among others cost it together
abbrev pub prices : List Setting → ℕ → List Telegram → ℕ
prices settings row [] = 0
prices settings row (t ∷ ts) = cond (t.row == row) (price settings t) 0 + prices settings row ts

-- (b) A row keeps its pace: between the release of t and the departure of u, accepted later for the same row, lie at least the cost of t and of all that the row accepted between the two, displaced ones too.
abbrev pub Paced : List Setting → List Entry → Type 0
Paced settings es =
    (before between after : List Telegram) (t u : Telegram) (time : ℕ)
    → accepted_in es ≡ before ++ (t ∷ (between ++ (u ∷ after)))
    → u.row ≡ t.row
    → Has (departures_in es) (record { telegram = u; time = time })
    → t.release + price settings t + prices settings t.row between ≤ time

-- (c) What t may count on from the calls that follow, if it is due and `before` stand before it, until the show is closed with `held` in its queue.
pub record Served (t : Telegram) (before : List Telegram) (later : List Entry) (held : List Telegram) : Type 0 where
  pub never_displaced : times_in t (displaced_in later) ≡ 0
  -- it leaves with just the departure whose turn it is
  pub in_turn : length before < length (departed_in later) → ((d : Telegram) → slice_index_or (departed_in later) (length before) d ≡ t) × (times_in t (departed_in later) ≡ 1)
  -- a history that ends sooner still holds it
  pub still_held : length (departed_in later) ≤ length before → (times_in t (departed_in later) ≡ 0) × (times_in t held ≡ 1)
  -- until it leaves, a release fails only for its time (refusal 1)
  pub no_wait : (first rest : List Entry) (now : ℕ) (e : ShowFault) → later ≡ first ++ (release now (Err e) ∷ rest) → length (departed_in first) ≤ length before → number e ≡ 1

-- A held telegram that is due, with at least slack held ones after it, is served in its turn, from whatever point of the history.
abbrev pub Fair : Limits → List Setting → List Entry → State → Type 0
Fair l settings es end =
    (earlier later : List Entry) (s : State) (t : Telegram) (before after : List Telegram)
    → es ≡ earlier ++ later
    → History l settings earlier s
    → Steps l s later end
    → s.held ≡ before ++ (t ∷ after)
    → t.release ≤ s.clock
    → l.slack ≤ length after
    → Served t before later end.held

-- the whole law, of a show that is closed in the state `end` with a report
pub record Accounts (l : Limits) (settings : List Setting) (es : List Entry) (end : State) (report : Report) : Type 0 where
  pub balanced : Balanced es end.held report
  pub paced : Paced settings es
  pub fair : Fair l settings es end

-- what a show reports in a state: its counts, and the number held as the queue answers it
abbrev pub report_of : State → Report
report_of s = record { accepted = s.accepted; departed = s.departed; displaced = s.displaced; held = told (length s.held) }

-- the law: whatever the limits of the queue, the settings and the calls
abbrev pub AccountsHold : Type 0
AccountsHold = (l : Limits) (settings : List Setting) (es : List Entry) (end : State) → History l settings es end → Accounts l settings es end (report_of end)
