use Rattle.promise_examples.proofs.BothKinds.{both_kinds_are_met}
use Rattle.promise_examples.proofs.runs.both_kinds.Goals as goal

pub returns : goal.returns
returns c = both_kinds_are_met
