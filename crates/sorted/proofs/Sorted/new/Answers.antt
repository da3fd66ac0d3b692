use Rattle.std.proofs.Common.{◌≡◌, replicate, vec_items, vec_len, ap, ◌∙◌}
use Rattle.std.specs.Vec.{with_items}
use Rattle.std.proofs.lemmas.List.{with_items_is}
use Rattle.standing.proofs.Meaning as meaning
use Rattle.sorted.proofs.Sorted.new.Goals as goal

pub invariant_of-result : goal.invariant_of-result
invariant_of-result g c =
    let r = g.met.R.Record in
    let v = c.args.over.cells in
    let new = vec_items (with_items v c.blank_all.new.cells) in
    let is : new ≡ replicate (vec_len v) g.R.Record.last = with_items_is v c.blank_all.new.cells (c.blank_all.auto.cells ∙ c.deref_mut.ensures.len) ∙ c.blank_all.ensures ∙ ap (λ n. replicate n g.R.Record.last) c.deref_mut.ensures.len in
    record { ascending = meaning.blank_ascends _ _ r.linear r.ends (vec_len v) new is; counted = meaning.blank_counted _ _ r.linear r.ends (vec_len v) new is }
