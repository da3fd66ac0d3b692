-- A history worked out: settings and calls, accepted and refused, over a queue of capacity 4 and slack 2.
use Rattle.std.specs.Prelude.{◌≡◌, ℕ, List, [], ◌∷◌, ◌++◌, replicate, Some, None, Ok, Err}
use Rattle.std.proofs.Common.{lit<, lit≤}
use Rattle.records.specs.declared.telegram.Telegram.{Telegram}
use Rattle.queues.specs.declared.fault.QueueFault.TheVariants.{Empty}
use Rattle.shows.specs.Timing.{no_row}
use Rattle.shows.specs.Calls.{Limits, State}
use Rattle.shows.specs.Histories.{Setting, Entry, admit, release, exchange, forecast, History}
use Rattle.shows.specs.Accounts.{Served, report_of}
use Rattle.shows.specs.declared.card.RowCard.{RowCard}
use Rattle.shows.specs.declared.answer.Report.{Report}
use Rattle.shows.specs.declared.fault.ShowFault.TheVariants.{Time, Row, Yellow, Red, Queue, Early, Length}
use Rattle.shows.specs.declared.fault.ForecastFault.TheVariants.{At}

-- as of 2 groups of 2 cells
abbrev pub limits : Limits
limits = record { capacity = 4; slack = 2 }

-- 20 ticks a byte, and 3,000 ticks ahead while the queue is yellow
abbrev pub slow : RowCard
slow = record { pace = 20; burst = 3000; bounds = (lit≤ tt, lit≤ tt, lit≤ tt) }

-- 10 ticks a byte, and never ahead while the queue is yellow
abbrev pub quick : RowCard
quick = record { pace = 10; burst = 0; bounds = (lit≤ tt, lit≤ tt, lit≤ tt) }

-- there is no row 64: the second setting is refused
abbrev pub settings : List Setting
settings = record { row = 0; card = slow } ∷ record { row = 64; card = slow } ∷ record { row = 1; card = quick } ∷ []

-- the telegrams in the sequence of their numbers
abbrev pub a : Telegram
a = record { release = 1000; number = 0; row = 0; length = 100; handle = 70; fits = (lit< tt, lit< tt, lit< tt, lit< tt, lit< tt) }

abbrev pub b : Telegram
b = record { release = 3000; number = 1; row = 0; length = 100; handle = 71; fits = (lit< tt, lit< tt, lit< tt, lit< tt, lit< tt) }

abbrev pub c : Telegram
c = record { release = 1000; number = 2; row = 1; length = 64; handle = 72; fits = (lit< tt, lit< tt, lit< tt, lit< tt, lit< tt) }

abbrev pub d : Telegram
d = record { release = 1640; number = 3; row = 1; length = 64; handle = 73; fits = (lit< tt, lit< tt, lit< tt, lit< tt, lit< tt) }

abbrev pub e : Telegram
e = record { release = 2280; number = 4; row = 1; length = 64; handle = 74; fits = (lit< tt, lit< tt, lit< tt, lit< tt, lit< tt) }

abbrev pub f : Telegram
f = record { release = 3000; number = 5; row = 1; length = 100; handle = 75; fits = (lit< tt, lit< tt, lit< tt, lit< tt, lit< tt) }

abbrev pub g : Telegram
g = record { release = 4000; number = 6; row = 1; length = 64; handle = 76; fits = (lit< tt, lit< tt, lit< tt, lit< tt, lit< tt) }

-- until the queue is full
abbrev pub opening : List Entry
opening =
    admit 1000 0 100 70 (Ok (record { telegram = a; displaced = None }))
    -- below the clock
    ∷ admit 999 0 100 71 (Err Time)
    ∷ admit 1000 0 100 71 (Ok (record { telegram = b; displaced = None }))
    -- yellow, and row 0 is 4,000 ticks ahead
    ∷ admit 1000 0 100 72 (Err Yellow)
    ∷ admit 1000 1 64 72 (Ok (record { telegram = c; displaced = None }))
    -- red, and row 1 is ahead
    ∷ admit 1639 1 64 73 (Err Red)
    ∷ admit 1640 1 64 73 (Ok (record { telegram = d; displaced = None }))
    ∷ []

-- from there on
abbrev pub closing : List Entry
closing =
    -- full: d leaves, after which only b stands
    admit 2280 1 64 74 (Ok (record { telegram = e; displaced = Some d }))
    ∷ release 2280 (Ok a)
    ∷ exchange 3000 1 100 75 (Ok (record { telegram = f; departed = c }))
    -- row 64 was not set
    ∷ exchange 3000 64 100 76 (Err Row)
    ∷ release 3000 (Ok e)
    ∷ release 3000 (Ok b)
    ∷ release 3000 (Ok f)
    ∷ release 3000 (Err (Queue Empty))
    ∷ forecast 3000 0 (100 ∷ 64 ∷ []) (1 ∷ 2 ∷ 3 ∷ []) (Ok 2) (5000 ∷ 7000 ∷ 3 ∷ [])
    -- the second length is too short
    ∷ forecast 3000 0 (100 ∷ 63 ∷ []) (1 ∷ 2 ∷ 3 ∷ []) (Err (At 1 Length)) (5000 ∷ 2 ∷ 3 ∷ [])
    ∷ admit 3000 1 64 76 (Ok (record { telegram = g; displaced = None }))
    -- the first is due at 4,000 only
    ∷ release 3999 (Err Early)
    ∷ []

-- a state of this show: clock and counts, the times of rows 0 and 1, and what is held
abbrev pub state : (clock accepted departed displaced time-0 time-1 : ℕ) → List Telegram → State
state clock accepted departed displaced time-0 time-1 held = record {
  clock = clock;
  accepted = accepted;
  departed = departed;
  displaced = displaced;
  rows = record { card = Some slow; time = time-0 } ∷ record { card = Some quick; time = time-1 } ∷ replicate 62 no_row;
  held = held;
}

-- c is due, and just two stand after it
abbrev pub full : State
full = state 1640 4 0 0 5000 2280 (a ∷ c ∷ d ∷ b ∷ [])

abbrev pub end : State
end = state 3000 7 5 1 5000 4640 (g ∷ [])

-- of seven telegrams five departed, one was displaced and one is held
abbrev pub report : Report
report = record { accepted = 7; departed = 5; displaced = 1; held = 1 }

pub record Worked : Type 0 where
  pub opens : History limits settings opening full
  pub whole : History limits settings (opening ++ closing) end
  pub reports : report_of end ≡ report
  -- c leaves second, and not for a newcomer
  pub serves : Served c (a ∷ []) closing end.held
