use Rattle.std.proofs.Common.{arith, rules}
use Rattle.sorted.proofs.Steps.{empty_told, exchange_ascends, taken_told, counted_less, takes, take_is}
use Rattle.sorted.proofs.calls.SortedQueue.take.Goals as goal

pub returns-then-self-eq0-clause-answer : goal.returns-then-self-eq0-clause-answer
returns-then-self-eq0-clause-answer g c = empty_told g.met.R.Record.linear g.met.R.Record.ends c.args.self.now c.if-self-eq0.true

pub invariant_of-self-2 : goal.invariant_of-self-2
invariant_of-self-2 g c = search (rules, exchange_ascends g.met.R.Record.linear g.met.R.Record.ends c.args.self.now, counted_less g.met.R.Record.linear g.met.R.Record.ends c.args.self.now)

pub returns-clause-takes : goal.returns-clause-takes
returns-clause-takes g c = search (rules, takes g.met.R.Record.linear g.met.R.Record.ends c.args.self.now)

pub returns-clause-answer : goal.returns-clause-answer
returns-clause-answer g c = taken_told g.met.R.Record.linear g.met.R.Record.ends c.args.self.now _ c.deref_mut.ensures.value _ c.set_for_first-out.ensures.out (omega arith)

pub returns-clause-cells : goal.returns-clause-cells
returns-clause-cells g c = search (rules, take_is g.met.R.Record.linear g.met.R.Record.ends c.args.self.now)
