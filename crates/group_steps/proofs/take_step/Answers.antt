use Rattle.std.proofs.Common.{◌≡◌, ◌+◌, ◌-◌, ◌*◌, ◌<◌, ◌≤◌, get_or, take, drop, refl, ap, ◌∙◌, subst, zero-mul, arith}
use Rattle.standing.specs.Steps.{flat, next_a, take_groups}
use Rattle.standing.proofs.Rows.{rows, row_ascends, next_is}
use Rattle.standing.proofs.Turns.{take_turn}
use Rattle.group_steps.proofs.take_step.Goals as goal

pub loop-i-preserved : goal.loop-i-preserved
loop-i-preserved g c =
    let le = g.R.Record.order in
    let d = g.R.Record.last in
    let m = c.args.shape.groups in
    let n = c.args.shape.size in
    let E = c.args.cells.now in
    let cells = c.loop-i.cells in
    let i = c.loop-i.i - 1 in
    let inside : i < m = omega arith in
    let q : c.loop-i.i ≡ i + 1 = omega arith in
    let inv = subst (λ v. (take (v * n) cells ≡ take (v * n) E) × (drop (v * n) cells ≡ flat (take_groups le d n (rows m n v E))) × (c.loop-i.next ≡ next_a d (rows m n v E))) q c.loop-i.invariant in
    let asc = row_ascends le d m n i E c.requires.whole c.requires.ascends inside in
    take_turn le g.met.R.Record.linear d m n i c.args.shape.two E c.requires.whole inside asc cells _ c.replace_first-next.new.cells c.loop-i.next c.replace_first-next.result (c.loop-i.auto.cells ∙ c.requires.whole) inv.0 inv.1 refl inv.2 c.replace_first-next.ensures.cells (c.replace_first-next.ensures.out d)

pub returns-clause-out : goal.returns-clause-out
returns-clause-out g c =
    let m = c.args.shape.groups in
    let n = c.args.shape.size in
    let E = c.args.cells.now in
    let z : c.loop-i.i ≡ 0 = omega arith in
    let first : c.loop-i.i * n ≡ 0 = ap (λ v. v * n) z ∙ zero-mul n in
    c.loop-i.invariant.2 ∙ next_is g.R.Record.last m n c.loop-i.i E c.requires.whole (omega arith) c.args.shape.two ∙ ap (λ v. get_or E v g.R.Record.last) first
