use Rattle.std.proofs.Common.{[], ◌∷◌, Ok, Err}
use Rattle.shows.specs.Histories.{exchange}
use Rattle.runs.specs.Events.{calls}
use Rattle.runs.specs.Runs.{exchange_called}
use Rattle.runs.specs.declared.fault.StreamFault.TheVariants.{Show}
use Rattle.streams.proofs.Doing.{refused_as}
use Rattle.streams.proofs.calls.exchange.Goals as goal

pub returns-in_err-exchange-clause-did : goal.returns-in_err-exchange-clause-did
returns-in_err-exchange-clause-did g c =
    let a = c.args in
    let h = c.in_err-exchange in
    λ pl readings. record { event = calls (exchange a.at a.request.row a.request.length a.request.handle (Err h.field-0.0)); does = exchange_called h.ensures.step; prints = refused_as (Show h.field-0.0) c.from_residual.result c.from_residual.ensures.1 }

pub returns-clause-did : goal.returns-clause-did
returns-clause-did g c =
    let a = c.args in
    let h = c.in_ok-exchange in
    λ pl readings. record { event = calls (exchange a.at a.request.row a.request.length a.request.handle (Ok h.exchange)); does = exchange_called h.ensures.step; prints = λ place i. c.departed-departed.ensures i ∷ c.accepted.ensures i ∷ [] }
