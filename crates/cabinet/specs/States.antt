-- A running show as the rules speak of it, from what its queue means.
use Rattle.std.specs.Prelude.{ℕ, ◌+◌, List, [], ◌∷◌, ◌++◌, slice_set}
use Rattle.records.specs.declared.telegram.Telegram.{Telegram}
use Rattle.shows.specs.Calls.{State, Limits}
use Rattle.shows.specs.Histories.{Setting, Entry, History}
use Rattle.shows.specs.declared.row.Row.{Row}
use Rattle.cabinet.specs.declared.running.RunningShow.{RunningShow}

-- the show's own fields, and what its queue holds
abbrev pub state_of : {Q : Type 0} → (Q → List Telegram) → RunningShow Q → State
state_of held show = record {
  clock = show.book.clock;
  accepted = show.book.accepted;
  departed = show.departed;
  displaced = show.displaced;
  rows = show.book.rows;
  held = held show.queue;
}

-- what never changes of its queue
abbrev pub limits_of : {Q : Type 0} → (room slack : Q → ℕ) → RunningShow Q → Limits
limits_of room slack show = record { capacity = room show.queue; slack = slack show.queue }

-- a show that has just started
abbrev pub begun : {Q : Type 0} → List Row → Q → RunningShow Q
begun rows queue = record { book = record { clock = 0; accepted = 0; rows = rows }; departed = 0; displaced = 0; queue = queue }

-- the clock, the count and one row have moved on
abbrev pub moved_on : {Q : Type 0} → RunningShow Q → ℕ → ℕ → Row → RunningShow Q
moved_on show now row after = record {
  book = record { clock = now; accepted = show.book.accepted + 1; rows = slice_set show.book.rows row after };
  departed = show.departed;
  displaced = show.displaced;
  queue = show.queue;
}

-- a call that is made in the state s adds its entry to every history that leads there
abbrev pub Extends : Limits → State → Entry → State → Type 0
Extends l s e s' = (settings : List Setting) (es : List Entry) → History l settings es s → History l settings (es ++ e ∷ []) s'
