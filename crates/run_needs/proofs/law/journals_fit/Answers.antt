use Rattle.run_needs.proofs.EntryCounts.{journals_fit}
use Rattle.run_needs.proofs.law.journals_fit.Goals as goal

pub returns : goal.returns
returns c = journals_fit
