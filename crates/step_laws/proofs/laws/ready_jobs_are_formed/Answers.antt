use Rattle.step_laws.proofs.FitLemmas.{given_jobs_fit}
use Rattle.step_laws.proofs.ShareLemmas.{ready_jobs_have_shares}
use Rattle.step_laws.proofs.laws.ready_jobs_are_formed.Goals as goal

pub returns : goal.returns
returns c = record { shares = ready_jobs_have_shares; fit = given_jobs_fit }
