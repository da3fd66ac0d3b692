use Rattle.cabinet.proofs.Rigging.{starts}
use Rattle.cabinet.proofs.rigged.RiggedShow.start.Goals as goal

pub returns-clause-history : goal.returns-clause-history
returns-clause-history g c = starts g.Q.Queue.held g.Q.Queue.room g.Q.Queue.slack c.args.self.rows c.args.self.queue c.begin.result c.begin.ensures
