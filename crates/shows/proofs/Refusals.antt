-- What an accepted call has passed, and that a forecast changes nothing.
use Rattle.std.proofs.Common.{◌≡◌, ℕ, ◌<◌, ◌≤◌, Bool, true, false, List, [], ◌∷◌, ◌++◌, Ok, Err, Result, sym, refl, ap, ◌∙◌, arith, lit<}
use Rattle.std.specs.List.{AllByRecursion as All}
use Rattle.std.proofs.lemmas.Bool.{ltb-false, leb-false, not-false, or_parts}
use Rattle.records.specs.declared.telegram.Telegram.{Telegram}
use Rattle.queues.specs.declared.fault.QueueFault.TheVariants.{Empty, Blank, Shape}
use Rattle.shows.specs.Faults.{number}
use Rattle.shows.specs.Timing.{is_set, first_refusal}
use Rattle.shows.specs.Calls.{Limits, State, row_at, count_limit, time_is_bad, early, zone_at, entry_tests, exit_tests, admit_refusal, release_refusal, exchange_refusal, Forecasts}
use Rattle.shows.specs.declared.fault.ForecastFault.{ForecastFault}
use Rattle.shows.specs.declared.fault.ForecastFault.TheVariants.{Whole, At}
use Rattle.shows.specs.declared.fault.ShowFault.{ShowFault}
use Rattle.shows.specs.declared.fault.ShowFault.TheVariants.{Time, Row, Length, Count, Overrun, Yellow, Red, Queue, Early, Card, Times}

-- tests under numbers from 1 on pass where none refuses
pub tests_pass : (tests : List (Bool × ℕ)) → All (λ test. 0 < test.1) tests → first_refusal tests ≡ 0 → All (λ test. test.0 ≡ false) tests
tests_pass [] h e = tt
tests_pass ((true, n) ∷ tests) h e = absurd (omega (arith, h.0))
tests_pass ((false, n) ∷ tests) h e = (refl, tests_pass tests h.1 e)

-- no fault has the number 0
pub number_some : (e : ShowFault) → 0 < number e
number_some Time = lit< tt
number_some Row = lit< tt
number_some Length = lit< tt
number_some Count = lit< tt
number_some Overrun = lit< tt
number_some Yellow = lit< tt
number_some Red = lit< tt
number_some (Queue Empty) = lit< tt
number_some (Queue Blank) = lit< tt
number_some (Queue Shape) = lit< tt
number_some Early = lit< tt
number_some Card = lit< tt
number_some Times = lit< tt

-- a telegram that enters: in time, to a row that is set, and not past the last number
pub record Entered (s : State) (at row : ℕ) : Type 0 where
  pub in_time : s.clock ≤ at
  pub row_set : is_set (row_at s row) ≡ true
  pub counted : s.accepted < count_limit

pub time_passes : (s : State) (at : ℕ) → time_is_bad s at ≡ false → s.clock ≤ at
time_passes s at h = ltb-false at s.clock (or_parts _ _ h).0

-- the first telegram leaves when it is due
pub first_due : (t : Telegram) (rest held : List Telegram) (at : ℕ) → held ≡ t ∷ rest → early at held ≡ false → t.release ≤ at
first_due t rest held at e h = ltb-false at t.release (ap (early at) (sym e) ∙ h)

module _ (l : Limits) (s : State) (at row bytes : ℕ) where
  entered : (more : List (Bool × ℕ)) → All (λ test. test.0 ≡ false) (entry_tests (zone_at l s) s at row bytes ++ more) → Entered s at row
  entered more h = record {
    in_time = time_passes s at h.0;
    row_set = not-false _ h.1.0;
    counted = leb-false count_limit s.accepted h.1.1.1.0;
  }

  pub admit_passes : admit_refusal l s at row bytes ≡ 0 → Entered s at row
  admit_passes h = entered [] (tests_pass (entry_tests (zone_at l s) s at row bytes) (lit< tt, (lit< tt, (lit< tt, (lit< tt, (lit< tt, (lit< tt, (lit< tt, tt))))))) h)

  pub exchange_passes : exchange_refusal l s at row bytes ≡ 0 → Entered s at row × (early at s.held ≡ false)
  exchange_passes h =
      let k = tests_pass (entry_tests (zone_at l s) s at row bytes ++ exit_tests s at) (lit< tt, (lit< tt, (lit< tt, (lit< tt, (lit< tt, (lit< tt, (lit< tt, (lit< tt, (lit< tt, tt))))))))) h in
      (entered (exit_tests s at) k, k.1.1.1.1.1.1.1.1.0)

pub release_passes : (s : State) (at : ℕ) → release_refusal s at ≡ 0 → (s.clock ≤ at) × (early at s.held ≡ false)
release_passes s at h = let k = tests_pass ((time_is_bad s at, 1) ∷ exit_tests s at) (lit< tt, (lit< tt, (lit< tt, tt))) h in (time_passes s at k.0, k.1.1.0)

pub forecast_same : (s : State) (at row : ℕ) (lengths times : List ℕ) (answer : Result ℕ ForecastFault) (times' : List ℕ) (s' : State) → Forecasts s at row lengths times answer times' s' → s' ≡ s
forecast_same s at row lengths times (Ok n) times' s' r = r.4
forecast_same s at row lengths times (Err (Whole e)) times' s' r = r.2
forecast_same s at row lengths times (Err (At place e)) times' s' r = r.4
