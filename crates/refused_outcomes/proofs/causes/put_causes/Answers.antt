use Rattle.refused_outcomes.proofs.PutCauses.{each_put_cause_is_refused}
use Rattle.refused_outcomes.proofs.causes.put_causes.Goals as goal

pub returns : goal.returns
returns c = each_put_cause_is_refused
