use Rattle.std.proofs.Common.{◌∷◌, [], Some, Ok, ap, ◌∙◌, subst}
use Rattle.shows.specs.Accounts.{report_of}
use Rattle.cabinet.specs.States.{state_of}
use Rattle.wire.specs.declared.commands.Command.TheVariants.{Close}
use Rattle.wire.specs.declared.lines.Line.{Line}
use Rattle.runs.specs.Events.{closes, totals_line}
use Rattle.runs.specs.Runs.{running, closed, show_closed}
use Rattle.streams.specs.Stages.{limits_at}
use Rattle.streams.specs.Playing.{Halts, Leaves}
use Rattle.streams.specs.declared.printed.Printed.TheVariants.{One}
use Rattle.streams.proofs.Ending.{ends_here, leads_over}
use Rattle.streams.proofs.play.play_on.Goals as goal

pub returns-in-Ok : goal.returns-in-Ok
returns-in-Ok g c =
    let m = g.Q.Queue in
    let n = g.P.Queue in
    let stage = c.stage-ended.ensures in
    let y = c.stage-ended.new.self in
    let last = c.stage-ended.new.show in
    let s = state_of m.held last in
    let f = c.in-Ok.found in
    let went = c.go_on.ensures in
    let z = c.go_on.new.self in
    let r = c.outlast.result in
    let line = c.totals.ensures ∙ ap totals_line c.close-queue.ensures.report in
    let later = subst (λ v. Leaves m.held m.room m.slack n.held n.room n.slack (limits_at m.room m.slack v) z (closed (record s { held = m.held v })) r) c.close-queue.ensures.queue (c.outlast.ensures s) in
    leads_over m.held m.room m.slack n.held n.room n.slack _ c.args.playing r (λ _. running (state_of m.held c.args.show)) (λ _. running s) y stage.on s z (closed s) f (Ok (One c.totals.result)) Close (subst (Halts (Some Close) y.bytes.now y.place) c.in-Ok.is stage.halts)
    (record { event = closes (report_of s); does = show_closed; prints = λ place. ap (λ (v : Line). v ∷ []) line })
    went.bytes went.place went.panel went.lines (subst (λ v. Leaves m.held m.room m.slack n.held n.room n.slack v z (closed s) r) stage.limits later)

pub returns-in-Err : goal.returns-in-Err
returns-in-Err g c =
    let m = g.Q.Queue in
    let n = g.P.Queue in
    let stage = c.stage-ended.ensures in
    let y = c.stage-ended.new.self in
    let s = state_of m.held c.stage-ended.new.show in
    let end = c.finish.ensures in
    let queue = end.queue ∙ c.close-queue.ensures.queue in
    ends_here m.held m.room m.slack n.held n.room n.slack _ c.args.playing c.finish.result (λ _. running (state_of m.held c.args.show)) (λ _. running s) y stage.on s (Some Close) (ap m.held queue) end.readings c.in-Err.fault (subst (Halts (Some Close) y.bytes.now y.place) c.in-Err.is stage.halts) end.lines (ap (limits_at m.room m.slack) queue ∙ stage.limits)
