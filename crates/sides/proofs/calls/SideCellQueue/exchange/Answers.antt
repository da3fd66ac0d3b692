use Rattle.std.proofs.Common.{Ok, rules}
use Rattle.sides.specs.SidesLemmas.{side_exchanges}
use Rattle.sides.proofs.calls.SideCellQueue.exchange.Goals as goal

pub returns-in-Some-clause-exchanges : goal.returns-in-Some-clause-exchanges
returns-in-Some-clause-exchanges g c = side_exchanges g.R.Record g.met.R.Record.linear g.met.R.Record.ends g.Q.Queue.held g.Q.Queue.room g.Q.Queue.slack g.met.Q.Queue.lawful _ _ (Ok c.in-Some.first) _ (search rules)
