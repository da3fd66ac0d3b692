use Rattle.std.proofs.Common.{[], ◌∷◌, Ok, Err, ap}
use Rattle.shows.specs.Histories.{release}
use Rattle.wire.specs.declared.lines.Line.{Line}
use Rattle.runs.specs.Events.{calls}
use Rattle.runs.specs.Runs.{release_called}
use Rattle.runs.specs.declared.fault.StreamFault.TheVariants.{Show}
use Rattle.streams.proofs.Doing.{refused_as}
use Rattle.streams.proofs.calls.release.Goals as goal

pub returns-in_err-telegram-clause-did : goal.returns-in_err-telegram-clause-did
returns-in_err-telegram-clause-did g c =
    let h = c.in_err-telegram in
    λ pl readings. record { event = calls (release c.args.at (Err h.field-0.0)); does = release_called h.ensures.step; prints = refused_as (Show h.field-0.0) c.from_residual.result c.from_residual.ensures.1 }

pub returns-clause-did : goal.returns-clause-did
returns-clause-did g c =
    let h = c.in_ok-telegram in
    λ pl readings. record { event = calls (release c.args.at (Ok h.telegram)); does = release_called h.ensures.step; prints = λ place. ap (λ (v : Line). v ∷ []) c.departed.ensures }
