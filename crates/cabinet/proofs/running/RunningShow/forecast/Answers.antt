use Rattle.std.proofs.Common.{rules, arith}
use Rattle.std.proofs.lemmas.Grind.{common_steps}
use Rattle.cabinet.proofs.Steps.{extends}
use Rattle.cabinet.proofs.running.RunningShow.forecast.Goals as goal

pub returns-then-times-lengths-clause-history : goal.returns-then-times-lengths-clause-history
returns-then-times-lengths-clause-history g c = extends _ _ _ _ (search rules)

pub returns-then-bad_time-clause-history : goal.returns-then-bad_time-clause-history
returns-then-bad_time-clause-history g c = extends _ _ _ _ (search rules)

pub returns-in_err-_found-clause-history : goal.returns-in_err-_found-clause-history
returns-in_err-_found-clause-history g c = extends _ _ _ _ (search rules)

pub returns-clause-history : goal.returns-clause-history
returns-clause-history g c = extends _ _ _ _ (grind (arith, common_steps))
