use Rattle.std.proofs.Common.{refl}
use Rattle.records.specs.Readings.{distance}
use Rattle.cases.proofs.queues_cases.queue_cases_stand.Goals as goal

pub returns-clause-first : goal.returns-clause-first
unfolding distance
returns-clause-first c = refl

pub returns-clause-second : goal.returns-clause-second
unfolding distance
returns-clause-second c = refl
