-- Which test refuses a call first.
use Rattle.std.proofs.Common.{◌≡◌, ℕ, ◌<◌, Bool, true, false, List, [], ◌∷◌, ◌++◌, sym, arith}
use Rattle.shows.specs.Timing.{first_refusal}
use Rattle.shows.specs.Calls.{State, Limits, zone_at, entry_tests, exit_tests, admit_refusal, exchange_refusal}
use Rattle.shows.specs.Faults.{number}
use Rattle.shows.specs.declared.fault.ShowFault.{ShowFault}
use Rattle.shows.proofs.Refusals.{number_some}

-- tests and more after them: the first that refuses is the first of all, and where none does the others decide
pub refused_before : (tests more : List (Bool × ℕ)) (n : ℕ) → 0 < n → first_refusal tests ≡ n → first_refusal (tests ++ more) ≡ n
refused_before [] more n some h = absurd (omega arith)
refused_before ((true, m) ∷ tests) more n some h = h
refused_before ((false, m) ∷ tests) more n some h = refused_before tests more n some h

module _ (l : Limits) (s : State) (now row bytes : ℕ) where
  pub entry_refused : (e : ShowFault) → number e ≡ admit_refusal l s now row bytes → number e ≡ exchange_refusal l s now row bytes
  entry_refused e h = sym (refused_before (entry_tests (zone_at l s) s now row bytes) (exit_tests s now) (number e) (number_some e) (sym h))
