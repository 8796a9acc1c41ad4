use Rattle.refused_outcomes.proofs.Untried.{each_untried_cause_is_refused}
use Rattle.refused_outcomes.proofs.causes.untried_causes.Goals as goal

pub returns : goal.returns
returns c = each_untried_cause_is_refused
