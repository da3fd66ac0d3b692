use Rattle.cabinet.specs.States.{state_of}
use Rattle.runs.proofs.Suiting.{running_else}
use Rattle.streams.proofs.calls.RunningShowStage.handle.Goals as goal

pub returns-in_default-clause-handles : goal.returns-in_default-clause-handles
returns-in_default-clause-handles g c =
    let h = c.in_default in
    λ s. c.to_panel.ensures.did _ _ s (running_else (state_of g.Q.Queue.held c.args.self.now) s c.args.command h.not-Admit h.not-Release h.not-Exchange h.not-Close)
