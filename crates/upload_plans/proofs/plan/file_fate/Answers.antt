use Rattle.std.proofs.Common.{rules}
use Rattle.upload_plans.proofs.plan.file_fate.Goals as goal

pub returns-then-keeps-clause-fate : goal.returns-then-keeps-clause-fate
returns-then-keeps-clause-fate c = search rules

pub returns-else-keeps-clause-fate : goal.returns-else-keeps-clause-fate
returns-else-keeps-clause-fate c = search rules
