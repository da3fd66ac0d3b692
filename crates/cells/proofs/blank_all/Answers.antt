use Rattle.std.proofs.Common.{◌≡◌, length, replicate, sym, ap, ◌∙◌, arith}
use Rattle.std.proofs.lemmas.List.{take_all}
use Rattle.cells.proofs.blank_all.Goals as goal

pub returns : goal.returns
returns g c =
    let k = c.loop-cell.cell-index in
    let n : k ≡ length c.args.cells.now = omega arith in
    sym (take_all k c.loop-cell.cells (omega arith)) ∙ c.loop-cell.invariant ∙ ap (λ v. replicate v g.R.Record.last) n
