use Rattle.std.proofs.Common.{◌≡◌, ◌+◌, ◌-◌, ◌*◌, ◌<◌, ◌≤◌, length, get_or, take, drop, refl, sym, ap, ◌∙◌, arith}
use Rattle.std.specs.Option.{unwrap_or, option_copied}
use Rattle.std.proofs.lemmas.List.{get_or_read}
use Rattle.standing.specs.Steps.{next_a}
use Rattle.standing.proofs.Rows.{rows, row_ascends, next_is}
use Rattle.standing.proofs.Turns.{part_ready, exchange_turn}
use Rattle.group_steps.proofs.exchange_step.Goals as goal

pub refit-requires-clause-ascending : goal.refit-requires-clause-ascending
refit-requires-clause-ascending g c =
    (part_ready g.R.Record.order g.R.Record.last c.args.shape.groups c.args.shape.size c.loop-i.i c.args.cells.now c.loop-i.cells c.requires.whole c.requires.ascends c.loop-i.auto.cells c.loop-i-test.true c.loop-i.invariant.1).1

pub loop-i-preserved : goal.loop-i-preserved
loop-i-preserved g c =
    let le = g.R.Record.order in
    let d = g.R.Record.last in
    let m = c.args.shape.groups in
    let n = c.args.shape.size in
    let E = c.args.cells.now in
    let cells = c.loop-i.cells in
    let i = c.loop-i.i in
    let two = c.args.shape.two in
    let whole = c.requires.whole in
    let inside = c.loop-i-test.true in
    let sizes = c.loop-i.auto.cells ∙ whole in
    let asc = row_ascends le d m n i E whole c.requires.ascends inside in
    let part = take ((i + 1) * n - i * n) (drop (i * n) cells) in
    let p = part_ready le d m n i E cells whole c.requires.ascends c.loop-i.auto.cells inside c.loop-i.invariant.1 in
    let long : length part ≡ n = p.0 in
    let x : c.unwrap_or-next.result ≡ next_a d (rows m n (i + 1) cells) =
    c.unwrap_or-next.ensures
    ∙ ap (λ o. unwrap_or o c.blank.result) c.copied.ensures
    ∙ ap (unwrap_or (option_copied c.get.result)) c.blank.ensures
    ∙ c.get.ensures.lookup.4 (omega arith) d
    ∙ sym (next_is d m n (i + 1) cells sizes (omega arith) two) in
    let y : c.index-group-shape.result ≡ get_or part (n - 1) d = get_or_read part (n - 1) c.index-group-shape.result (omega arith) c.index-group-shape.is d in
    exchange_turn le g.met.R.Record.linear d m n i two E whole inside asc cells part c.refit.new.group _ sizes c.loop-i.invariant.1 refl c.loop-i.a c.unwrap_or-next.result c.index-group-shape.result c.by_order-low.result.0 c.by_order-low.result.1 x y c.by_order-low.ensures.low c.by_order-low.ensures.high c.refit.ensures c.loop-i.invariant.0
