use Rattle.refused_outcomes.proofs.LaterFailure.{first_failures_are_met, later_failures_are_refused}
use Rattle.refused_outcomes.proofs.causes.later_failures.Goals as goal

pub returns-clause-met : goal.returns-clause-met
returns-clause-met c = first_failures_are_met

pub returns-clause-refused : goal.returns-clause-refused
returns-clause-refused c = later_failures_are_refused
