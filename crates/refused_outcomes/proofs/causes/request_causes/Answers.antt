use Rattle.refused_outcomes.proofs.OneRequest.{each_request_cause_is_met, each_request_cause_is_refused}
use Rattle.refused_outcomes.proofs.causes.request_causes.Goals as goal

pub returns-clause-met : goal.returns-clause-met
returns-clause-met c = each_request_cause_is_met

pub returns-clause-refused : goal.returns-clause-refused
returns-clause-refused c = each_request_cause_is_refused
