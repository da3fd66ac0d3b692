use Rattle.shows.proofs.Accounting.{accounts_hold}
use Rattle.shows.proofs.law.law_holds.Goals as goal

pub returns-clause-law : goal.returns-clause-law
returns-clause-law c = accounts_hold
