use Rattle.std.proofs.Common.{◌≡◌, ◌++◌, take, drop}
use Rattle.shows.specs.Timing.{forecast_times, forecast_refusal}
use Rattle.slots.proofs.trial.tell.Given as goal

-- the trial keeps its row and its copy, and what is left gives the whole
abbrev pub invariant-loop-i : goal.invariant-loop-i
invariant-loop-i l =
    (l.trial.row.ghost_name ≡ l.initial.trial.row.ghost_name)
    × (l.trial.was ≡ l.initial.trial.was)
    × (forecast_refusal l.trial.row.now l.at (drop l.i l.lengths) ≡ forecast_refusal l.trial.was l.at l.lengths)
    × (take l.i l.times ++ forecast_times l.trial.row.now l.at (drop l.i l.lengths) ≡ forecast_times l.trial.was l.at l.lengths)
    × (drop l.i l.times ≡ drop l.i l.initial.times)
