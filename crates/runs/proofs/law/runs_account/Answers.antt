use Rattle.std.proofs.Common.{refl}
use Rattle.runs.proofs.Relying.{runs_account}
use Rattle.runs.proofs.law.runs_account.Goals as goal

pub returns : goal.returns
returns c = record { answer = refl; law = runs_account }
