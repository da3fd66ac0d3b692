use Rattle.std.proofs.Common.{◌≡◌, ◌+◌, ◌-◌, ◌<◌, false, length, get_or, drop, set, sym, ap, ◌∙◌, arith}
use Rattle.std.proofs.lemmas.List.{length-drop}
use Rattle.std.proofs.ByRecursion.{All-more}
use Rattle.standing.proofs.Replacing.{up_turn, up_end, leads_some, leads_none, next_at}
use Rattle.cells.proofs.replace_first.Goals as goal

pub loop-k-preserved : goal.loop-k-preserved
loop-k-preserved g c =
    let E = c.args.cells.now in
    let cells = c.loop-k.cells in
    let k = c.loop-k.k in
    let x = c.args.x in
    let le = g.R.Record.order in
    let inv = c.loop-k.invariant in
    let more : k + 1 < length E = omega arith in
    let t = up_turn E cells k c.index-cells-k-in-loop-k.result c.loop-k.auto.cells more inv.1 inv.2 c.index-cells-k-in-loop-k.is in
    let ld = length-drop 1 E in
    let in_d : k < length (drop 1 E) = omega arith in
    let seen = c.index-cells-k.result in
    let after : le x (get_or (drop 1 E) k seen) ≡ false = sym (c.if-no_later.ensures ∙ ap (le x) (next_at E cells k seen inv.2)) in
    (more, t.0, t.1, All-more (λ z. le x z ≡ false) (drop 1 E) k seen in_d inv.3 after)

pub returns-then-no_later-clause-cells : goal.returns-then-no_later-clause-cells
returns-then-no_later-clause-cells g c =
    let E = c.args.cells.now in
    let k = c.loop-k.k in
    let x = c.args.x in
    let le = g.R.Record.order in
    let inv = c.loop-k.invariant in
    let y = c.index-cells-k.result in
    let ld = length-drop 1 E in
    let leads = leads_some le x y (drop 1 E) k (omega arith) (c.index-cells-k.is ∙ next_at E c.loop-k.cells k y inv.2) (sym (c.if-no_later.ensures ∙ ap (le x) (sym c.index-cells-k.is))) in
    up_end le E c.loop-k.cells k x c.loop-k.auto.cells inv.0 inv.1 inv.2 inv.3 leads

pub returns-clause-cells : goal.returns-clause-cells
returns-clause-cells g c =
    let E = c.args.cells.now in
    let k = c.loop-k.k in
    let inv = c.loop-k.invariant in
    let ld = length-drop 1 E in
    let e : length E - 1 ≡ k = omega arith in
    ap (λ v. set c.loop-k.cells v c.args.x) e ∙ up_end g.R.Record.order E c.loop-k.cells k c.args.x c.loop-k.auto.cells inv.0 inv.1 inv.2 inv.3 (leads_none g.R.Record.order c.args.x (drop 1 E) k (omega arith))
