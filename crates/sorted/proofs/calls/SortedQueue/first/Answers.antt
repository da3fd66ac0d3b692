use Rattle.std.proofs.Common.{take, ap, ◌∙◌, arith}
use Rattle.std.specs.List.{slice_get}
use Rattle.std.proofs.lemmas.List.{length-take-le}
use Rattle.sorted.proofs.Steps.{within, first_is}
use Rattle.sorted.proofs.calls.SortedQueue.first.Goals as goal

pub slice_bounds-first-end : goal.slice_bounds-first-end
slice_bounds-first-end g c =
    let q = c.args.self.now in
    let w = within g.met.R.Record.linear g.met.R.Record.ends q in
    let k = length-take-le q.held c.deref.result.now (omega arith) in
    omega arith

pub returns : goal.returns
returns g c = c.copied.ensures ∙ c.first.ensures.value ∙ ap (λ v. slice_get (take c.args.self.now.held v) 0) c.deref.ensures.value ∙ first_is g.met.R.Record.linear g.met.R.Record.ends c.args.self.now
