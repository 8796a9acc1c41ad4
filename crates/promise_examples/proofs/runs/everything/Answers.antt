use Rattle.promise_examples.proofs.EventfulPlan.{everything_is_met}
use Rattle.promise_examples.proofs.runs.everything.Goals as goal

pub returns : goal.returns
returns c = everything_is_met
