use Rattle.shows.proofs.Worked.{worked}
use Rattle.shows.proofs.law.example.worked_history.Goals as goal

pub returns-clause-happens : goal.returns-clause-happens
returns-clause-happens c = worked
