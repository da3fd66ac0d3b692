use Rattle.std.proofs.Common.{arith, rules}
use Rattle.sorted.proofs.Steps.{within, put_ascends, counted_more, counted_same, put_keeps, put_displaces}
use Rattle.sorted.proofs.calls.SortedQueue.put.Goals as goal

pub overflow_add-self : goal.overflow_add-self
overflow_add-self g c =
    let w = within g.met.R.Record.linear g.met.R.Record.ends c.args.self.now in
    let few = c.args.self.now.over.few in
    omega arith

pub invariant_of-self-then-is_blank-2 : goal.invariant_of-self-then-is_blank-2
invariant_of-self-then-is_blank-2 g c = search (rules, put_ascends g.met.R.Record.linear g.met.R.Record.ends c.args.self.now, counted_more g.met.R.Record.linear g.met.R.Record.ends c.args.self.now)

pub returns-then-is_blank-2-clause-puts : goal.returns-then-is_blank-2-clause-puts
returns-then-is_blank-2-clause-puts g c = search (rules, put_keeps g.met.R.Record.linear g.met.R.Record.ends c.args.self.now)

pub invariant_of-self-else-is_blank-2 : goal.invariant_of-self-else-is_blank-2
invariant_of-self-else-is_blank-2 g c = search (rules, put_ascends g.met.R.Record.linear g.met.R.Record.ends c.args.self.now, counted_same g.met.R.Record.linear g.met.R.Record.ends c.args.self.now)

pub returns-clause-puts : goal.returns-clause-puts
returns-clause-puts g c = search (rules, put_displaces g.met.R.Record.linear g.met.R.Record.ends c.args.self.now)
