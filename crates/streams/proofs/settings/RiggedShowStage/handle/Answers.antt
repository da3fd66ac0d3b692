use Rattle.std.proofs.Common.{refl}
use Rattle.runs.proofs.Suiting.{rigging_else}
use Rattle.streams.proofs.settings.RiggedShowStage.handle.Goals as goal

pub returns-in_default : goal.returns-in_default
returns-in_default g c =
    let h = c.in_default in
    let show = c.args.self.now in
    record {
      handles = λ s. c.to_panel.ensures.did _ _ s (rigging_else show.rows (g.Q.Queue.held show.queue) s c.args.command h.not-SetRow h.not-Start);
      limits = refl;
      panel = c.to_panel.ensures.limits;
    }
