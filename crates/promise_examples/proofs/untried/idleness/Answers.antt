use Rattle.promise_examples.proofs.IdleRun.{idleness_is_refused}
use Rattle.promise_examples.proofs.untried.idleness.Goals as goal

pub returns : goal.returns
returns c = idleness_is_refused
