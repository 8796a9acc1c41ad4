use Rattle.rare_runs.proofs.Beside.{external_write_is_met}
use Rattle.rare_runs.proofs.witnesses.external_write.Goals as goal

pub returns : goal.returns
returns c = external_write_is_met
