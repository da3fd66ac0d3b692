use Rattle.std.proofs.Common.{◌≡◌, ap, ◌∙◌, arith}
use Rattle.queues.specs.Queues.{told}
use Rattle.sorted.proofs.Steps.{within}
use Rattle.sorted.proofs.calls.SortedQueue.len.Goals as goal

pub overflow_cast-result : goal.overflow_cast-result
overflow_cast-result g c =
    let w = within g.met.R.Record.linear g.met.R.Record.ends c.args.self.now in
    let few = c.args.self.now.over.few in
    omega arith

pub returns : goal.returns
returns g c =
    let q = c.args.self.now in
    let w = within g.met.R.Record.linear g.met.R.Record.ends q in
    let few = q.over.few in
    let small : q.held ≡ told q.held = omega arith in
    small ∙ ap told q.counted
