use Rattle.std.proofs.Common.{rules}
use Rattle.cabinet.proofs.Steps.{extends}
use Rattle.cabinet.proofs.running.RunningShow.admit.Goals as goal

pub returns-in_err-slot-clause-history : goal.returns-in_err-slot-clause-history
returns-in_err-slot-clause-history g c = extends _ _ _ _ (search rules)

pub returns-clause-history : goal.returns-clause-history
returns-clause-history g c = extends _ _ _ _ (search rules)
