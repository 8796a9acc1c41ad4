use Rattle.whole_runs.proofs.Asked.{jobs_are_asked, jobs_are_formed}
use Rattle.whole_runs.proofs.Growing.{jobs_go_on}
use Rattle.whole_runs.proofs.Witness.{given_again_is_met}
use Rattle.whole_runs.proofs.laws.jobs_are_asked.Goals as goal

pub returns : goal.returns
returns c = record { formed = jobs_are_formed; asked = jobs_are_asked; go_on = jobs_go_on; met = given_again_is_met }
