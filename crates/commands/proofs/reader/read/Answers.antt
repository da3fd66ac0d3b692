use Rattle.std.proofs.Common.{◌∙◌}
use Rattle.wire.proofs.Trips.{read_back}
use Rattle.commands.proofs.reader.read.Goals as goal

pub returns-clause-back : goal.returns-clause-back
returns-clause-back c = λ f is. read_back c.args.bytes.now (λ i. (c.type_inv.bytes i).fits) f (c.take_apart-command.ensures.answer ∙ is)
