use Rattle.std.proofs.Common.{rules}
use Rattle.upload_plans.proofs.plan.task_fate.Goals as goal

pub returns-clause-fate : goal.returns-clause-fate
returns-clause-fate c = search rules
