use Rattle.std.proofs.Common.{◌≡◌, ◌++◌, drop, sym, ap, ◌∙◌, arith}
use Rattle.std.proofs.lemmas.List.{get_or-take, length-take-le}
use Rattle.standing.proofs.Ascending as ascending
use Rattle.sorted_steps.proofs.set_for_first.Goals as goal

pub slice_bounds-replace_first-end : goal.slice_bounds-replace_first-end
slice_bounds-replace_first-end g c =
    let w = ascending.within g.R.Record.order g.R.Record.last g.met.R.Record.linear g.met.R.Record.ends c.args.cells.now c.args.held c.requires.ascending c.requires.counted in
    omega arith

pub slice_bounds-replace_first-end-2 : goal.slice_bounds-replace_first-end-2
slice_bounds-replace_first-end-2 g c =
    let w = ascending.within g.R.Record.order g.R.Record.last g.met.R.Record.linear g.met.R.Record.ends c.args.cells.now c.args.held c.requires.ascending c.requires.counted in
    sym (length-take-le c.args.held c.args.cells.now w)

pub returns : goal.returns
returns g c =
    let le = g.R.Record.order in
    let blank = g.R.Record.last in
    let E = c.args.cells.now in
    let h = c.args.held in
    let p = c.requires.some in
    record {
      cells = ap (λ v. v ++ drop h E) c.replace_first.ensures.cells ∙ ascending.first_in le blank g.met.R.Record.linear g.met.R.Record.ends E h c.requires.ascending c.requires.counted c.args.x p;
      out = c.replace_first.ensures.out blank ∙ get_or-take h E 0 blank p;
    }
