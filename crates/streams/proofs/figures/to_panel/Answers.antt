use Rattle.std.proofs.Common.{refl, ◌∙◌}
use Rattle.runs.proofs.Suiting.{closed_unsuited}
use Rattle.streams.proofs.Doing.{unsuited_did}
use Rattle.streams.proofs.figures.to_panel.Goals as goal

pub returns-in_default : goal.returns-in_default
returns-in_default g c =
    let h = c.in_default in
    record {
      did = λ l phase s fits. unsuited_did l _ phase _ c.args.command (fits ∙ closed_unsuited s c.args.command h.not-Reading h.not-Show);
      limits = refl;
    }
