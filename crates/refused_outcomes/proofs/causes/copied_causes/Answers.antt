use Rattle.refused_outcomes.proofs.LaterFailure.{deleted_sources_are_met, each_copied_cause_is_refused}
use Rattle.refused_outcomes.proofs.causes.copied_causes.Goals as goal

pub returns-clause-met : goal.returns-clause-met
returns-clause-met c = deleted_sources_are_met

pub returns-clause-refused : goal.returns-clause-refused
returns-clause-refused c = each_copied_cause_is_refused
