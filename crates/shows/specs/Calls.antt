-- A running show, and what each of its calls does to it. These are the relations that the contracts of the calls state, and that histories are made of.
use Rattle.std.specs.Prelude.{◌≡◌, ℕ, ◌+◌, min, Bool, true, false, cond, not, ◌&&◌, ◌||◌, List, [], ◌∷◌, ◌++◌, length, Some, None, Ok, Err, Option, Result, ◌==◌, nat_le, nat_lt, slice_index_or, slice_set}
use Rattle.records.specs.Telegrams.{stands, blank}
use Rattle.records.specs.declared.telegram.Telegram.{Telegram}
use Rattle.queues.specs.Queues.{Puts, Takes, Exchanges, put_of, told}
use Rattle.shows.specs.Faults.{number}
use Rattle.shows.specs.Zones.{zone}
use Rattle.shows.specs.Timing.{last_tick, no_row, is_set, card_burst, release_of, row_after, length_is_bad, overruns, first_refusal, forecast_times, forecast_refusal, written}
use Rattle.shows.specs.declared.row.Row.{Row}
use Rattle.shows.specs.declared.zone.Zone.{Zone}
use Rattle.shows.specs.declared.zone.Zone.TheVariants.{Green, Yellow, Red}
use Rattle.shows.specs.declared.answer.Admission.{Admission}
use Rattle.shows.specs.declared.answer.Exchange.{Exchange}
use Rattle.shows.specs.declared.fault.ShowFault.{ShowFault}
use Rattle.shows.specs.declared.fault.ForecastFault.{ForecastFault}
use Rattle.shows.specs.declared.fault.ForecastFault.TheVariants.{Whole, At}

-- what never changes of a show's queue
pub record Limits : Type 0 where
  pub capacity : ℕ
  pub slack : ℕ

-- a show, and what its queue holds
pub record State : Type 0 where
  -- the last accepted now
  pub clock : ℕ
  -- the telegrams accepted, which is also the next number
  pub accepted : ℕ
  pub departed : ℕ
  pub displaced : ℕ
  -- the rows, by their numbers
  pub rows : List Row
  -- the collection of the queue, ascending
  pub held : List Telegram

-- where a count stops
abbrev pub count_limit : ℕ
count_limit = 1000000

-- a count with one more, up to where it stops
abbrev pub one_more : ℕ → ℕ
one_more n = min (n + 1) count_limit

-- the row of a number; one that is not set where there is no such row
abbrev pub row_at : State → ℕ → Row
row_at s row = slice_index_or s.rows row no_row

-- ---- refusals: the number of the first test that refuses the call, or 0

-- the zone, as a test
abbrev pub is_yellow : Zone → Bool
is_yellow Green = false
is_yellow Yellow = true
is_yellow Red = false

abbrev pub is_red : Zone → Bool
is_red Green = false
is_red Yellow = false
is_red Red = true

-- now is below the clock or past the last tick
abbrev pub time_is_bad : State → ℕ → Bool
time_is_bad s now = nat_lt now s.clock || nat_lt last_tick now

-- the first telegram held is not due at now
abbrev pub early : ℕ → List Telegram → Bool
early now [] = false
early now (t ∷ ts) = nat_lt now t.release

-- nothing is held
abbrev pub none_held : List Telegram → Bool
none_held [] = true
none_held (t ∷ ts) = false

-- the tests of a row that is ahead, by the zone: yellow further than its burst, red at all
abbrev pub zone_tests : Zone → Row → ℕ → List (Bool × ℕ)
zone_tests z row now = (is_yellow z && nat_lt (now + card_burst row) row.time, 6) ∷ (is_red z && nat_lt now row.time, 7) ∷ []

-- the tests of a telegram that is to enter, in the zone of the call
abbrev pub entry_tests : Zone → State → ℕ → ℕ → ℕ → List (Bool × ℕ)
entry_tests z s now row bytes =
    (time_is_bad s now, 1)
    ∷ (not (is_set (row_at s row)), 2)
    ∷ (length_is_bad bytes, 3)
    ∷ (nat_le count_limit s.accepted, 4)
    ∷ (overruns (row_at s row) now bytes, 5)
    ∷ zone_tests z (row_at s row) now

-- the tests of a telegram that is to leave
abbrev pub exit_tests : State → ℕ → List (Bool × ℕ)
exit_tests s now = (none_held s.held, 8) ∷ (early now s.held, 9) ∷ []

-- the zone of a call, on the number held before it
abbrev pub zone_at : Limits → State → Zone
zone_at l s = zone (told (length s.held)) (told l.capacity)

-- the first test that refuses each call, by its number
abbrev pub admit_refusal : Limits → State → ℕ → ℕ → ℕ → ℕ
admit_refusal l s now row bytes = first_refusal (entry_tests (zone_at l s) s now row bytes)

abbrev pub release_refusal : State → ℕ → ℕ
release_refusal s now = first_refusal ((time_is_bad s now, 1) ∷ exit_tests s now)

abbrev pub exchange_refusal : Limits → State → ℕ → ℕ → ℕ → ℕ
exchange_refusal l s now row bytes = first_refusal (entry_tests (zone_at l s) s now row bytes ++ exit_tests s now)

-- a refused call bears the number of the test that refused it, and changes nothing
pub record Refused (refusal : ℕ) (s : State) (fault : ShowFault) (s' : State) : Type 0 where
  pub by : number fault ≡ refusal
  pub same : s' ≡ s

-- ---- what a call does

-- a telegram is stamped: it bears the next number and its release, and clock, count and row move on
pub record Stamps (s : State) (now row bytes handle : ℕ) (t : Telegram) (s' : State) : Type 0 where
  pub number_is : t.number ≡ s.accepted
  pub release_is : t.release ≡ release_of (row_at s row) now
  pub row_is : t.row ≡ row
  pub length_is : t.length ≡ bytes
  pub handle_is : t.handle ≡ handle
  pub clock : s'.clock ≡ now
  pub accepted : s'.accepted ≡ s.accepted + 1
  pub rows : s'.rows ≡ slice_set s.rows row (row_after (row_at s row) now bytes)

-- a count, with one more where a telegram was displaced
abbrev pub counted : Option Telegram → ℕ → ℕ
counted None n = n
counted (Some d) n = one_more n

-- admit: the stamped telegram is put, as the queue means it
pub record Admitted (l : Limits) (s : State) (now row bytes handle : ℕ) (a : Admission) (s' : State) : Type 0 where
  pub passes : admit_refusal l s now row bytes ≡ 0
  pub stamped : Stamps s now row bytes handle a.telegram s'
  pub enters : Puts stands blank (λ h. h) (λ _. l.capacity) (λ _. l.slack) s.held a.telegram (Ok (put_of a.displaced)) s'.held
  pub displaced : s'.displaced ≡ counted a.displaced s.displaced
  pub departed : s'.departed ≡ s.departed

-- release: the first telegram departs
pub record Released (l : Limits) (s : State) (now : ℕ) (t : Telegram) (s' : State) : Type 0 where
  pub passes : release_refusal s now ≡ 0
  pub leaves : Takes (λ h. h) (λ _. l.capacity) (λ _. l.slack) s.held (Ok t) s'.held
  pub clock : s'.clock ≡ now
  pub accepted : s'.accepted ≡ s.accepted
  pub departed : s'.departed ≡ one_more s.departed
  pub displaced : s'.displaced ≡ s.displaced
  pub rows : s'.rows ≡ s.rows

-- exchange: the first telegram departs and the stamped one enters, by the queue's exchange
pub record Exchanged (l : Limits) (s : State) (now row bytes handle : ℕ) (a : Exchange) (s' : State) : Type 0 where
  pub passes : exchange_refusal l s now row bytes ≡ 0
  pub stamped : Stamps s now row bytes handle a.telegram s'
  pub trades : Exchanges stands blank (λ h. h) (λ _. l.capacity) (λ _. l.slack) s.held a.telegram (Ok a.departed) s'.held
  pub departed : s'.departed ≡ one_more s.departed
  pub displaced : s'.displaced ≡ s.displaced

-- each call: what it does where it is accepted, or that it is refused
abbrev pub Admits : Limits → State → (now row bytes handle : ℕ) → Result Admission ShowFault → State → Type 0
Admits l s now row bytes handle (Ok a) s' = Admitted l s now row bytes handle a s'
Admits l s now row bytes handle (Err e) s' = Refused (admit_refusal l s now row bytes) s e s'

abbrev pub Releases : Limits → State → (now : ℕ) → Result Telegram ShowFault → State → Type 0
Releases l s now (Ok t) s' = Released l s now t s'
Releases l s now (Err e) s' = Refused (release_refusal s now) s e s'

abbrev pub Trades : Limits → State → (now row bytes handle : ℕ) → Result Exchange ShowFault → State → Type 0
Trades l s now row bytes handle (Ok a) s' = Exchanged l s now row bytes handle a s'
Trades l s now row bytes handle (Err e) s' = Refused (exchange_refusal l s now row bytes) s e s'

-- ---- forecast: the releases that admits at now would get, zones and count ignored

-- the number of the first test that refuses a forecast as a whole, or 0
abbrev pub forecast_whole : State → ℕ → ℕ → List ℕ → List ℕ → ℕ
forecast_whole s now row lengths times =
    first_refusal ((nat_lt (length times) (length lengths), 17) ∷ (time_is_bad s now, 1) ∷ (not (is_set (row_at s row)), 2) ∷ [])

-- the times after a forecast: as they were where it is refused as a whole
abbrev pub times_written : State → ℕ → ℕ → List ℕ → List ℕ → List ℕ
times_written s now row lengths times =
    cond (forecast_whole s now row lengths times == 0) (written (row_at s row) now lengths times) times

-- all lengths are told, or the forecast is refused as a whole, or by the length at a place
abbrev pub Forecasts : State → (now row : ℕ) → (lengths times : List ℕ) → Result ℕ ForecastFault → (times' : List ℕ) → State → Type 0
Forecasts s now row lengths times (Ok n) times' s' =
    (forecast_whole s now row lengths times ≡ 0) × (forecast_refusal (row_at s row) now lengths ≡ 0) × (n ≡ length lengths) × (times' ≡ times_written s now row lengths times) × (s' ≡ s)
Forecasts s now row lengths times (Err (Whole e)) times' s' = (number e ≡ forecast_whole s now row lengths times) × (times' ≡ times) × (s' ≡ s)
Forecasts s now row lengths times (Err (At place e)) times' s' =
    (forecast_whole s now row lengths times ≡ 0) × (number e ≡ forecast_refusal (row_at s row) now lengths) × (place ≡ length (forecast_times (row_at s row) now lengths)) × (times' ≡ times_written s now row lengths times) × (s' ≡ s)
