use Rattle.std.proofs.Common.{arith, rules}
use Rattle.standing.proofs.Telling.{exchange_told}
use Rattle.sorted.proofs.Steps.{empty_told, exchange_ascends, taken_told, counted_still, exchanges}
use Rattle.sorted.proofs.calls.SortedQueue.exchange.Goals as goal

pub returns-then-self-eq0-clause-answer : goal.returns-then-self-eq0-clause-answer
returns-then-self-eq0-clause-answer g c = search (rules, exchange_told, empty_told g.met.R.Record.linear g.met.R.Record.ends c.args.self.now)

pub invariant_of-self : goal.invariant_of-self
invariant_of-self g c = search (rules, exchange_ascends g.met.R.Record.linear g.met.R.Record.ends c.args.self.now, counted_still g.met.R.Record.linear g.met.R.Record.ends c.args.self.now)

pub returns-clause-exchanges : goal.returns-clause-exchanges
returns-clause-exchanges g c = search (rules, exchanges g.met.R.Record.linear g.met.R.Record.ends c.args.self.now)

pub returns-clause-answer : goal.returns-clause-answer
returns-clause-answer g c =
    let told = taken_told g.met.R.Record.linear g.met.R.Record.ends c.args.self.now _ c.deref_mut.ensures.value _ c.set_for_first.ensures.out (omega arith) in
    search (rules, exchange_told)
