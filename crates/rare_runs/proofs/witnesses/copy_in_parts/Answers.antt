use Rattle.rare_runs.proofs.PartsCopy.{copy_in_parts_is_met}
use Rattle.rare_runs.proofs.witnesses.copy_in_parts.Goals as goal

pub returns : goal.returns
returns c = copy_in_parts_is_met
