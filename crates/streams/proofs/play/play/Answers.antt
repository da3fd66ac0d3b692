use Rattle.std.proofs.Common.{◌≡◌, Some, Ok, refl, ap, ◌∙◌, subst}
use Rattle.shows.specs.Histories.{unset_rows, fresh}
use Rattle.cabinet.specs.States.{state_of, limits_of}
use Rattle.wire.specs.declared.commands.Command.TheVariants.{Start}
use Rattle.runs.specs.Events.{starts}
use Rattle.runs.specs.Runs.{rigging, running, show_started}
use Rattle.streams.specs.Stages.{limits_at, rigging_of}
use Rattle.streams.specs.Playing.{Halts, Leaves}
use Rattle.streams.specs.declared.printed.Printed.TheVariants.{Nothing}
use Rattle.streams.proofs.Ending.{ends_here, leads_over}
use Rattle.streams.proofs.play.play.Goals as goal

pub returns-in-Ok : goal.returns-in-Ok
returns-in-Ok g c =
    let m = g.Q.Queue in
    let n = g.P.Queue in
    let h = m.held c.args.queue in
    let new = c.new-show.ensures in
    let stage = c.stage-ended.ensures in
    let y = c.stage-ended.new.self in
    let last = c.stage-ended.new.show in
    let started = fresh last.rows (m.held last.queue) in
    let f = c.in-Ok.found in
    let went = c.go_on.ensures in
    let z = c.go_on.new.self in
    let r = c.play_on.result in
    let first : rigging_of m.held c.new-show.result ≡ rigging unset_rows h = λ i. rigging (new.rows i) (m.held (new.queue i)) in
    let later = subst (λ v. Leaves m.held m.room m.slack n.held n.room n.slack (limits_of m.room m.slack v) z (running (state_of m.held v)) r) c.start-started.ensures.shows c.play_on.ensures in
    let all = leads_over m.held m.room m.slack n.held n.room n.slack (limits_at m.room m.slack c.new-show.result.queue) c.args.playing r (λ _. rigging_of m.held c.new-show.result) (λ _. rigging_of m.held last) y stage.on started z (running started) f (Ok Nothing) Start (subst (Halts (Some Start) y.bytes.now y.place) c.in-Ok.is stage.halts)
    (record { event = starts; does = show_started; prints = λ place. refl })
    went.bytes went.place went.panel went.lines (subst (λ v. Leaves m.held m.room m.slack n.held n.room n.slack v z (running started) r) stage.limits later) in
    subst (λ v. Leaves m.held m.room m.slack n.held n.room n.slack (limits_at m.room m.slack v) c.args.playing (rigging unset_rows h) r) new.queue
    (subst (λ v. Leaves m.held m.room m.slack n.held n.room n.slack (limits_at m.room m.slack c.new-show.result.queue) c.args.playing v r) first all)

pub returns-in-Err : goal.returns-in-Err
returns-in-Err g c =
    let m = g.Q.Queue in
    let n = g.P.Queue in
    let h = m.held c.args.queue in
    let new = c.new-show.ensures in
    let stage = c.stage-ended.ensures in
    let y = c.stage-ended.new.self in
    let last = c.stage-ended.new.show in
    let end = c.finish.ensures in
    let r = c.finish.result in
    let first : rigging_of m.held c.new-show.result ≡ rigging unset_rows h = λ i. rigging (new.rows i) (m.held (new.queue i)) in
    let queue = end.queue ∙ c.close-queue.ensures.queue ∙ ap (λ v. v.queue) c.start-started.ensures.shows in
    let all = ends_here m.held m.room m.slack n.held n.room n.slack (limits_at m.room m.slack c.new-show.result.queue) c.args.playing r (λ _. rigging_of m.held c.new-show.result) (λ _. rigging_of m.held last) y stage.on (fresh last.rows (m.held last.queue)) (Some Start) (ap m.held queue) end.readings c.in-Err.fault (subst (Halts (Some Start) y.bytes.now y.place) c.in-Err.is stage.halts) end.lines (ap (limits_at m.room m.slack) queue ∙ stage.limits) in
    subst (λ v. Leaves m.held m.room m.slack n.held n.room n.slack (limits_at m.room m.slack v) c.args.playing (rigging unset_rows h) r) new.queue
    (subst (λ v. Leaves m.held m.room m.slack n.held n.room n.slack (limits_at m.room m.slack c.new-show.result.queue) c.args.playing v r) first all)
