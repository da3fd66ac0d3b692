use Rattle.std.proofs.Common.{◌≡◌, ◌-◌, length}
use Rattle.streams.specs.Playing.{PlayedOn}
use Rattle.streams.proofs.playing.Playing.stage.Given as goal

-- every run that led to where the stage begins leads on to this place
abbrev pub invariant-stage : goal.invariant-stage
invariant-stage g l =
    PlayedOn g.P.Queue.held g.P.Queue.room g.P.Queue.slack (g.S.Stage.limits l.initial.show) l.initial.self (g.S.Stage.phase l.initial.show) l.self (g.S.Stage.phase l.show)
    × (g.S.Stage.limits l.show ≡ g.S.Stage.limits l.initial.show)

abbrev pub decreases-stage : goal.decreases-stage
decreases-stage g l = length l.self.bytes.now - l.self.place
