-- The worked history happens, call by call.
use Rattle.std.proofs.Common.{List, [], ◌∷◌, ◌++◌, refl, lit<, lit≤}
use Rattle.records.specs.declared.telegram.Telegram.{Telegram}
use Rattle.queues.specs.Queues.{SameLimits}
use Rattle.shows.specs.Faults.{number}
use Rattle.shows.specs.Calls.{State, Refused}
use Rattle.shows.specs.Histories.{Steps, done, next, History}
use Rattle.shows.specs.Worked.{limits, settings, a, b, c, d, e, f, opening, closing, state, full, end, Worked}
use Rattle.shows.specs.declared.fault.ShowFault.{ShowFault}
use Rattle.shows.proofs.Growing.{steps_join}
use Rattle.shows.proofs.Accounting.{accounts_hold}

-- the limits stay
same : {held held' : List Telegram} → SameLimits {R = Telegram} (λ (h : List Telegram). h) (λ _. limits.capacity) (λ _. limits.slack) held held'
same = record { room_stays = refl; slack_stays = refl }

refused : {s : State} {fault : ShowFault} → Refused (number fault) s fault s
refused = record { by = refl; same = refl }

opens : History limits settings opening full
opens =
    next {u = state 1000 1 0 0 3000 0 (a ∷ [])} (record { passes = refl; stamped = record { number_is = refl; release_is = refl; row_is = refl; length_is = refl; handle_is = refl; clock = refl; accepted = refl; rows = refl }; enters = (refl, lit< tt, refl, same); displaced = refl; departed = refl })
    (next refused
    (next {u = state 1000 2 0 0 5000 0 (a ∷ b ∷ [])} (record { passes = refl; stamped = record { number_is = refl; release_is = refl; row_is = refl; length_is = refl; handle_is = refl; clock = refl; accepted = refl; rows = refl }; enters = (refl, lit< tt, refl, same); displaced = refl; departed = refl })
    (next refused
    (next {u = state 1000 3 0 0 5000 1640 (a ∷ c ∷ b ∷ [])} (record { passes = refl; stamped = record { number_is = refl; release_is = refl; row_is = refl; length_is = refl; handle_is = refl; clock = refl; accepted = refl; rows = refl }; enters = (refl, lit< tt, refl, same); displaced = refl; departed = refl })
    (next refused
    (next {u = full} (record { passes = refl; stamped = record { number_is = refl; release_is = refl; row_is = refl; length_is = refl; handle_is = refl; clock = refl; accepted = refl; rows = refl }; enters = (refl, lit< tt, refl, same); displaced = refl; departed = refl })
    done))))))

closes : Steps limits full closing end
closes =
    next {u = state 2280 5 0 1 5000 2920 (a ∷ c ∷ e ∷ b ∷ [])} (record { passes = refl; stamped = record { number_is = refl; release_is = refl; row_is = refl; length_is = refl; handle_is = refl; clock = refl; accepted = refl; rows = refl }; enters = (refl, refl, record { rest = a ∷ c ∷ b ∷ []; was = refl; is = refl; near = lit< tt }, same); displaced = refl; departed = refl })
    (next {u = state 2280 5 1 1 5000 2920 (c ∷ e ∷ b ∷ [])} (record { passes = refl; leaves = (refl, same); clock = refl; accepted = refl; departed = refl; displaced = refl; rows = refl })
    (next {u = state 3000 6 2 1 5000 4000 (e ∷ b ∷ f ∷ [])} (record { passes = refl; stamped = record { number_is = refl; release_is = refl; row_is = refl; length_is = refl; handle_is = refl; clock = refl; accepted = refl; rows = refl }; trades = (refl, record { rest = e ∷ b ∷ []; was = refl; is = refl }, same); departed = refl; displaced = refl })
    (next refused
    (next {u = state 3000 6 3 1 5000 4000 (b ∷ f ∷ [])} (record { passes = refl; leaves = (refl, same); clock = refl; accepted = refl; departed = refl; displaced = refl; rows = refl })
    (next {u = state 3000 6 4 1 5000 4000 (f ∷ [])} (record { passes = refl; leaves = (refl, same); clock = refl; accepted = refl; departed = refl; displaced = refl; rows = refl })
    (next {u = state 3000 6 5 1 5000 4000 []} (record { passes = refl; leaves = (refl, same); clock = refl; accepted = refl; departed = refl; displaced = refl; rows = refl })
    (next refused
    (next (refl, refl, refl, refl, refl)
    (next (refl, refl, refl, refl, refl)
    (next {u = end} (record { passes = refl; stamped = record { number_is = refl; release_is = refl; row_is = refl; length_is = refl; handle_is = refl; clock = refl; accepted = refl; rows = refl }; enters = (refl, lit< tt, refl, same); displaced = refl; departed = refl })
    (next refused
    done)))))))))))

whole : History limits settings (opening ++ closing) end
whole = steps_join limits opens closes

pub worked : Worked
worked = record {
  opens = opens;
  whole = whole;
  reports = refl;
  serves = (accounts_hold limits settings (opening ++ closing) end whole).fair opening closing full c (a ∷ []) (d ∷ b ∷ []) refl opens closes refl (lit≤ tt) (lit≤ tt);
}
