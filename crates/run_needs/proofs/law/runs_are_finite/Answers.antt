use Rattle.run_needs.proofs.MoveCounts.{runs_are_finite}
use Rattle.run_needs.proofs.law.runs_are_finite.Goals as goal

pub returns : goal.returns
returns c = runs_are_finite
