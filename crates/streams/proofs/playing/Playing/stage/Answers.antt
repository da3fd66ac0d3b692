use Rattle.std.proofs.Common.{[], Ok, ◌∙◌, subst}
use Rattle.shows.specs.Histories.{fresh}
use Rattle.streams.specs.Places.{StandsAt}
use Rattle.streams.proofs.Going.{stage_goes_on}
use Rattle.streams.proofs.playing.Playing.stage.Goals as goal

pub stage-preserved : goal.stage-preserved
stage-preserved g c =
    let m = g.P.Queue in
    let x = c.stage.self in
    let there = subst (λ v. StandsAt x.bytes.now x.place (Ok v)) c.in-Ok-Some.field-0-is c.in-Ok-Some.ensures in
    let went = c.go_on.ensures in
    let did = c.in-Some.ensures in
    let inv = c.stage.invariant in (
      stage_goes_on m.held m.room m.slack _ x c.go_on.new.self c.in-Ok-Some.found c.in-Some.answer there went.bytes went.place went.lines _ _ _ _ _ c.handle.new.panel inv.0 inv.1 did.handles did.panel went.panel,
      did.limits ∙ inv.1,
    )

pub returns-in_default-clause-halts : goal.returns-in_default-clause-halts
returns-in_default-clause-halts g c =
    let x = c.stage.self in
    let there = subst (λ v. StandsAt x.bytes.now x.place (Ok v)) c.in-Ok-Some.field-0-is c.in-Ok-Some.ensures in
    (there, (c.in_default.ensures.handles (fresh [] [])).0)
