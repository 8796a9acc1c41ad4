use Rattle.promise_examples.proofs.EarlyEnd.{each_early_end_is_refused, early_end_is_met}
use Rattle.promise_examples.proofs.untried.early_end.Goals as goal

pub returns-clause-met : goal.returns-clause-met
returns-clause-met c = early_end_is_met

pub returns-clause-refused : goal.returns-clause-refused
returns-clause-refused c = each_early_end_is_refused
