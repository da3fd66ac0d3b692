use Rattle.std.proofs.Common.{rules}
use Rattle.cabinet.proofs.Rigging.{sets}
use Rattle.cabinet.proofs.rigged.RiggedShow.set.Goals as goal

pub returns-then-row-ge64-clause-rigging : goal.returns-then-row-ge64-clause-rigging
returns-then-row-ge64-clause-rigging g c = sets _ _ _ (search rules)

pub returns-clause-rigging : goal.returns-clause-rigging
returns-clause-rigging g c = sets _ _ _ (search rules)
