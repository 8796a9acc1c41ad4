use Rattle.rare_runs.proofs.Untried.{cancelled_is_met}
use Rattle.rare_runs.proofs.witnesses.cancelled_run.Goals as goal

pub returns : goal.returns
returns c = cancelled_is_met
