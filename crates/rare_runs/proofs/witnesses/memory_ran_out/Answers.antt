use Rattle.rare_runs.proofs.Untried.{memory_is_met}
use Rattle.rare_runs.proofs.witnesses.memory_ran_out.Goals as goal

pub returns : goal.returns
returns c = memory_is_met
