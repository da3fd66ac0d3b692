use Rattle.std.proofs.Common.{arith, rules}
use Rattle.grouped.proofs.Steps.{held_few}
use Rattle.grouped.proofs.calls.GroupsQueue.len.Goals as goal

pub overflow_cast-result : goal.overflow_cast-result
overflow_cast-result g c = let h = held_few g.met.R.Record.linear g.met.R.Record.ends c.args.self.now in search rules

pub returns : goal.returns
returns g c =
    let h = held_few g.met.R.Record.linear g.met.R.Record.ends c.args.self.now in
    let e = c.args.self.now.counts in
    omega arith
