use Rattle.std.proofs.Common.{refl}
use Rattle.streams.specs.Stages.{closed_of}
use Rattle.streams.proofs.closed.ClosedShowStage.handle.Goals as goal

pub returns-clause-handles : goal.returns-clause-handles
returns-clause-handles g c =
    let held = g.Q.Queue.held in
    let show = c.args.self.now in
    λ s. c.to_panel.ensures.did _ (closed_of held show s) (record s { held = held show.queue }) refl
