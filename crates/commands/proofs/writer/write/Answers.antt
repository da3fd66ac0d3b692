use Rattle.std.proofs.Common.{arith}
use Rattle.wire.specs.declared.commands.Command.TheVariants.{Admit, Exchange}
use Rattle.commands.proofs.Wrote.{wrote}
use Rattle.commands.proofs.writer.write.Goals as goal

pub returns-in-Admit-clause-reads : goal.returns-in-Admit-clause-reads
returns-in-Admit-clause-reads c =
    let cmd = Admit c.in-Admit.at c.in-Admit.row c.in-Admit.length c.in-Admit.handle in
    let w = wrote cmd c.args.command.now c.in-Admit.is c.args.out.now c.admission_bytes.result (omega arith) c.admission_bytes.ensures.bytes c.admission_bytes.ensures.fits c.put-count-in-Admit.result c.put-count-in-Admit.new.out c.put-count-in-Admit.ensures.count c.put-count-in-Admit.ensures.buffer in
    λ _. w.2

pub returns-in-Exchange-clause-reads : goal.returns-in-Exchange-clause-reads
returns-in-Exchange-clause-reads c =
    let cmd = Exchange c.in-Exchange.at c.in-Exchange.row c.in-Exchange.length c.in-Exchange.handle in
    let w = wrote cmd c.args.command.now c.in-Exchange.is c.args.out.now c.admission_bytes-in-Exchange.result (omega arith) c.admission_bytes-in-Exchange.ensures.bytes c.admission_bytes-in-Exchange.ensures.fits c.put-count-in-Exchange.result c.put-count-in-Exchange.new.out c.put-count-in-Exchange.ensures.count c.put-count-in-Exchange.ensures.buffer in
    λ _. w.2
