use Rattle.std.proofs.Common.{sym, ap}
use Rattle.queues.specs.Queues.{first_of}
use Rattle.grouped.proofs.Steps.{held_none, held_some}
use Rattle.grouped.proofs.calls.GroupsQueue.first.Goals as goal

pub returns-then-is_blank : goal.returns-then-is_blank
returns-then-is_blank g c = sym (ap first_of (held_none g.met.R.Record.linear g.met.R.Record.ends c.args.self.now c.index.result.now c.index.ensures c.if-is_blank.ensures))

pub returns-else-is_blank : goal.returns-else-is_blank
returns-else-is_blank g c = sym (ap first_of (held_some g.met.R.Record.linear g.met.R.Record.ends c.args.self.now c.index.result.now c.index.ensures c.if-is_blank.ensures))
