use Rattle.std.proofs.Common.{◌≡◌, ◌+◌, ◌-◌, ◌<◌, ◌≤◌, ◌⊎◌, ◌++◌, length, get_or, take, drop, ap, ◌∙◌, inl, inr, ⊎_elim, arith}
use Rattle.std.proofs.lemmas.Bool.{cases_lt}
use Rattle.std.proofs.lemmas.List.{length-take-le}
use Rattle.records.specs.Sorting.{insert}
use Rattle.standing.proofs.Ascending as ascending
use Rattle.standing.proofs.Lists.{ascending_take}
use Rattle.sorted_steps.proofs.set_for_last.Goals as goal

pub replace_last-requires-clause-ascending : goal.replace_last-requires-clause-ascending
replace_last-requires-clause-ascending g c =
    let le = g.R.Record.order in
    let E = c.args.cells.now in
    let part = take c.min-end.result E in
    ascending_take le (length part - 1) part (ascending_take le c.min-end.result E (ascending.ascending_from le g.R.Record.last E c.requires.ascending))

pub returns : goal.returns
returns g c =
    let le = g.R.Record.order in
    let blank = g.R.Record.last in
    let l = g.met.R.Record.linear in
    let ends = g.met.R.Record.ends in
    let E = c.args.cells.now in
    let h = c.args.held in
    let end = c.min-end.result in
    let some = c.requires.some in
    let to : ((h < length E) × (end ≡ h + 1)) ⊎ ((length E ≤ h) × (end ≡ length E)) = ⊎_elim (λ p. inl (omega arith, omega arith)) (λ p. inr (omega arith, omega arith)) (cases_lt h (length E)) in
    let n : length (take end E) ≡ end = length-take-le end E (⊎_elim (λ p. omega arith) (λ p. omega arith) to) in
    record {
      cells = ap (λ v. v ++ drop end E) c.replace_last.ensures.cells ∙ ap (λ k. insert le c.args.x (take (k - 1) (take end E)) ++ drop end E) n ∙ ascending.last_in le blank l ends E h c.requires.ascending c.requires.counted end to c.args.x some;
      out = c.replace_last.ensures.out blank ∙ ap (λ k. get_or (take end E) (k - 1) blank) n ∙ ascending.last_out le blank l ends E h c.requires.ascending c.requires.counted end to some;
    }
