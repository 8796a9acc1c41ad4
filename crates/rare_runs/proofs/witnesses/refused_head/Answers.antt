use Rattle.rare_runs.proofs.HeadRun.{refused_head_is_met}
use Rattle.rare_runs.proofs.witnesses.refused_head.Goals as goal

pub returns : goal.returns
returns c = refused_head_is_met
