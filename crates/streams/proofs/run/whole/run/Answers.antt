use Rattle.std.proofs.Common.{arith}
use Rattle.streams.proofs.Ending.{lists_all}
use Rattle.streams.proofs.run.whole.run.Goals as goal

pub returns-clause-lists : goal.returns-clause-lists
returns-clause-lists g c =
    let m = g.Q.Queue in
    let n = g.P.Queue in
    let x = c.in_ok-playing.playing in
    let t = c.in_ok-playing.ensures in
    lists_all m.held m.room m.slack n.held n.room n.slack _ x c.play.result c.args.bytes.now c.args.readings (m.held c.args.queue) t.0 t.1 t.2 t.3 (omega arith) c.play.ensures
