use Rattle.std.proofs.Common.{replicate, ap, ◌∙◌}
use Rattle.std.proofs.lemmas.List.{with_items_is}
use Rattle.grouped.proofs.Steps.{blank_stands}
use Rattle.grouped.proofs.Groups.new.Goals as goal

pub invariant_of-result : goal.invariant_of-result
invariant_of-result g c =
    let d = g.R.Record.last in
    let over = c.args.over in
    let len = c.deref_mut.ensures.len in
    blank_stands g.R.Record.order g.met.R.Record.linear d g.met.R.Record.ends over.shape.groups over.shape.size _
    (with_items_is over.cells c.blank_all.new.cells (c.blank_all.auto.cells ∙ len) ∙ c.blank_all.ensures ∙ ap (λ v. replicate v d) (len ∙ over.whole))
