-- Histories of a show: its making, then its calls with their answers; and what is read off them.
use Rattle.std.specs.Prelude.{ℕ, cond, List, [], ◌∷◌, ◌++◌, replicate, Some, Ok, Err, Result, nat_lt, slice_set}
use Rattle.std.specs.Option.{option_to_list}
use Rattle.records.specs.declared.telegram.Telegram.{Telegram}
use Rattle.shows.specs.Timing.{no_row}
use Rattle.shows.specs.Calls.{Limits, State, Admits, Releases, Trades, Forecasts}
use Rattle.shows.specs.declared.card.RowCard.{RowCard}
use Rattle.shows.specs.declared.row.Row.{Row}
use Rattle.shows.specs.declared.answer.Admission.{Admission}
use Rattle.shows.specs.declared.answer.Exchange.{Exchange}
use Rattle.shows.specs.declared.fault.ShowFault.{ShowFault}
use Rattle.shows.specs.declared.fault.ForecastFault.{ForecastFault}

-- ---- the making: settings, and the start

-- a row, and the card that it is set to
pub record Setting : Type 0 where
  pub row : ℕ
  pub card : RowCard

-- a row is set anew: its card, and free from tick 0
abbrev pub row_set : RowCard → Row
row_set card = record { card = Some card; time = 0 }

-- a setting above row 63 is refused and changes nothing; a second setting replaces the first
abbrev pub with_setting : List Row → Setting → List Row
with_setting rows x = cond (nat_lt x.row 64) (slice_set rows x.row (row_set x.card)) rows

-- all settings, one after another
abbrev pub with_settings : List Row → List Setting → List Row
with_settings rows [] = rows
with_settings rows (x ∷ xs) = with_settings (with_setting rows x) xs

-- 64 rows, none set
abbrev pub unset_rows : List Row
unset_rows = replicate 64 no_row

-- a show that has just started
abbrev pub fresh : List Row → List Telegram → State
fresh rows held = record { clock = 0; accepted = 0; departed = 0; displaced = 0; rows = rows; held = held }

-- a show that was made by these settings, its queue empty, and has just started
abbrev pub started : List Setting → State
started settings = fresh (with_settings unset_rows settings) []

-- ---- the calls

-- a call with what was given to it and what it answered
pub data Entry : Type 0 where
  admit : (now row bytes handle : ℕ) → Result Admission ShowFault → Entry
  release : (now : ℕ) → Result Telegram ShowFault → Entry
  exchange : (now row bytes handle : ℕ) → Result Exchange ShowFault → Entry
  forecast : (now row : ℕ) (lengths times : List ℕ) → Result ℕ ForecastFault → (times' : List ℕ) → Entry

-- one call takes the show from s to s'
abbrev pub Step : Limits → State → Entry → State → Type 0
Step l s (admit now row bytes handle answer) s' = Admits l s now row bytes handle answer s'
Step l s (release now answer) s' = Releases l s now answer s'
Step l s (exchange now row bytes handle answer) s' = Trades l s now row bytes handle answer s'
Step l s (forecast now row lengths times answer times') s' = Forecasts s now row lengths times answer times' s'

-- the calls of a list, one after another
pub data Steps (l : Limits) : State → List Entry → State → Type 0 where
  done : {s : State} → Steps l s [] s
  next : {s u s' : State} {e : Entry} {es : List Entry} → Step l s e u → Steps l u es s' → Steps l s (e ∷ es) s'

-- a show that was made over an empty queue and then called
abbrev pub History : Limits → List Setting → List Entry → State → Type 0
History l settings es s = Steps l (started settings) es s

-- ---- what the calls and answers say

-- a telegram, and the now at which it left
pub record Departure : Type 0 where
  pub telegram : Telegram
  pub time : ℕ

-- the telegrams that one call took in, let out and displaced, by its answer
abbrev pub accepted_by : Entry → List Telegram
accepted_by (admit now row bytes handle (Ok a)) = a.telegram ∷ []
accepted_by (admit now row bytes handle (Err e)) = []
accepted_by (release now answer) = []
accepted_by (exchange now row bytes handle (Ok a)) = a.telegram ∷ []
accepted_by (exchange now row bytes handle (Err e)) = []
accepted_by (forecast now row lengths times answer times') = []

abbrev pub departed_by : Entry → List Departure
departed_by (admit now row bytes handle answer) = []
departed_by (release now (Ok t)) = record { telegram = t; time = now } ∷ []
departed_by (release now (Err e)) = []
departed_by (exchange now row bytes handle (Ok a)) = record { telegram = a.departed; time = now } ∷ []
departed_by (exchange now row bytes handle (Err e)) = []
departed_by (forecast now row lengths times answer times') = []

abbrev pub displaced_by : Entry → List Telegram
displaced_by (admit now row bytes handle (Ok a)) = option_to_list a.displaced
displaced_by (admit now row bytes handle (Err e)) = []
displaced_by (release now answer) = []
displaced_by (exchange now row bytes handle answer) = []
displaced_by (forecast now row lengths times answer times') = []

-- in the sequence of the calls
abbrev pub accepted_in : List Entry → List Telegram
accepted_in [] = []
accepted_in (e ∷ es) = accepted_by e ++ accepted_in es

abbrev pub departures_in : List Entry → List Departure
departures_in [] = []
departures_in (e ∷ es) = departed_by e ++ departures_in es

abbrev pub displaced_in : List Entry → List Telegram
displaced_in [] = []
displaced_in (e ∷ es) = displaced_by e ++ displaced_in es

-- the telegrams alone
abbrev pub telegrams : List Departure → List Telegram
telegrams [] = []
telegrams (d ∷ ds) = d.telegram ∷ telegrams ds

abbrev pub departed_in : List Entry → List Telegram
departed_in es = telegrams (departures_in es)
