use Rattle.std.proofs.Common.{rules}
use Rattle.cabinet.proofs.Steps.{extends}
use Rattle.cabinet.proofs.running.RunningShow.release.Goals as goal

pub returns-then-bad_time-clause-history : goal.returns-then-bad_time-clause-history
returns-then-bad_time-clause-history g c = extends _ _ _ _ (search rules)

pub returns-then-is_early-clause-history : goal.returns-then-is_early-clause-history
returns-then-is_early-clause-history g c = extends _ _ _ _ (search rules)

pub returns-in_err-telegram-clause-history : goal.returns-in_err-telegram-clause-history
returns-in_err-telegram-clause-history g c = extends _ _ _ _ (search rules)

pub returns-clause-history : goal.returns-clause-history
returns-clause-history g c = extends _ _ _ _ (search rules)
