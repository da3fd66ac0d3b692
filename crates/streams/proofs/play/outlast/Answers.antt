use Rattle.std.proofs.Common.{None, ap, ◌∙◌, subst}
use Rattle.streams.specs.Stages.{limits_at, closed_of}
use Rattle.streams.specs.Playing.{Halts}
use Rattle.streams.proofs.Ending.{ends_here}
use Rattle.streams.proofs.play.outlast.Goals as goal

pub returns : goal.returns
returns g c =
    let m = g.Q.Queue in
    let n = g.P.Queue in
    let stage = c.stage.ensures in
    let y = c.stage.new.self in
    let end = c.finish.ensures in
    λ s. ends_here m.held m.room m.slack n.held n.room n.slack _ c.args.playing c.finish.result (closed_of m.held c.args.show) (closed_of m.held c.stage.new.show) y stage.on s None (ap m.held end.queue) end.readings c.in-Err.fault (subst (Halts None y.bytes.now y.place) c.in-Err.is stage.halts) end.lines (ap (limits_at m.room m.slack) end.queue ∙ stage.limits)
