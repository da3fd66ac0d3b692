use Rattle.std.proofs.Common.{rules, sym, refl, ap, ◌∙◌, subst}
use Rattle.std.proofs.lemmas.Result.{err_from_is_err_and}
use Rattle.shows.specs.Calls.{Trades}
use Rattle.shows.specs.Faults.{number}
use Rattle.cabinet.specs.States.{state_of, limits_of}
use Rattle.cabinet.proofs.Refusals.{entry_refused}
use Rattle.cabinet.proofs.Steps.{extends}
use Rattle.cabinet.proofs.running.RunningShow.exchange.Goals as goal

pub returns-in_err-slot-clause-step : goal.returns-in_err-slot-clause-step
returns-in_err-slot-clause-step g c =
    let m = g.Q.Queue in
    let q = c.args.request in
    let s = state_of m.held c.args.self.now in
    let p = err_from_is_err_and c.from_residual.result c.from_residual.ensures.1 in
    let by = entry_refused (limits_of m.room m.slack c.args.self.now) s c.args.at q.row q.length p.0 (ap number p.2 ∙ c.in_err-slot.ensures) in
    subst (λ r. Trades (limits_of m.room m.slack c.args.self.now) s c.args.at q.row q.length q.handle r s) (sym p.1) (record { by = by; same = refl })

pub returns-in_err-slot-clause-history : goal.returns-in_err-slot-clause-history
returns-in_err-slot-clause-history g c = extends _ _ _ _ (returns-in_err-slot-clause-step g c)

pub returns-then-is_early-clause-history : goal.returns-then-is_early-clause-history
returns-then-is_early-clause-history g c = extends _ _ _ _ (search rules)

pub returns-in_err-departed-clause-history : goal.returns-in_err-departed-clause-history
returns-in_err-departed-clause-history g c = extends _ _ _ _ (search rules)

pub returns-clause-history : goal.returns-clause-history
returns-clause-history g c = extends _ _ _ _ (search rules)
