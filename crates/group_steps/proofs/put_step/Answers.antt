use Rattle.std.proofs.Common.{◌-◌, ◌*◌, ◌<◌, ◌≤◌, refl, ◌∙◌, arith}
use Rattle.standing.proofs.Lists.{ascending_take}
use Rattle.standing.proofs.Rows.{row_ascends}
use Rattle.standing.proofs.Turns.{part_ready, put_turn}
use Rattle.group_steps.proofs.put_step.Goals as goal

pub replace_last-z-requires : goal.replace_last-z-requires
replace_last-z-requires g c =
    let shape = c.args.shape in
    let p = part_ready g.R.Record.order g.R.Record.last shape.groups shape.size c.loop-i.i c.args.cells.now c.loop-i.cells c.requires.whole c.requires.ascends c.loop-i.auto.cells (omega arith) c.loop-i.invariant.1 in
    let e = p.0 in
    let two = shape.two in
    record { some = omega arith; ascending = ascending_take g.R.Record.order _ _ p.1 }

pub loop-i-preserved : goal.loop-i-preserved
loop-i-preserved g c =
    let le = g.R.Record.order in
    let d = g.R.Record.last in
    let shape = c.args.shape in
    let E = c.args.cells.now in
    let whole = c.requires.whole in
    let inside : c.loop-i.i < shape.groups = omega arith in
    let asc = row_ascends le d shape.groups shape.size c.loop-i.i E whole c.requires.ascends inside in
    let t = put_turn le g.met.R.Record.linear d shape.groups shape.size c.loop-i.i shape.two E whole inside asc c.loop-i.cells _ c.replace_last-z.new.cells _ (c.loop-i.auto.cells ∙ whole) c.loop-i.invariant.1 refl c.loop-i.z c.replace_last-z.result c.replace_last-z.ensures.cells (c.replace_last-z.ensures.out d) c.loop-i.invariant.0 in
    (t.0, t.1, λ _. t.2)
