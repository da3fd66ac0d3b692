use Rattle.std.proofs.Common.{◌-◌, length, drop, ap, ◌∙◌, arith}
use borrow.Rule.Slice.PartMut.{put_mid}
use Rattle.std.proofs.lemmas.List.{length-drop, length-take-le}
use Rattle.records.specs.Sorting.{insert}
use Rattle.records.proofs.Sorting.{length_insert}
use Rattle.standing.specs.Steps.{s_of}
use Rattle.standing.proofs.Lists.{ascending_take, ascending_tail}
use Rattle.standing.proofs.Turns.{refit_rest}
use Rattle.group_steps.proofs.refit.Goals as goal

pub replace_last-requires : goal.replace_last-requires
replace_last-requires g c =
    let le = g.R.Record.order in
    let E = c.args.group.now in
    let ld = length-drop 1 E in
    let l = length-take-le (length E - 1) (drop 1 E) (omega arith) in
    record { some = omega arith; ascending = ascending_take le _ _ (ascending_take le (length E - 1) (drop 1 E) (ascending_tail le E c.requires.ascending)) }

pub returns : goal.returns
returns g c =
    let le = g.R.Record.order in
    c.replace_first.ensures.cells ∙ ap (insert le c.args.a) (refit_rest le c.args.z c.args.group.now c.replace_last.new.cells c.requires.two c.replace_last.ensures.cells)
