use Rattle.std.proofs.Common.{rules}
use Rattle.upload_plans.proofs.plan.kept_fate.Goals as goal

pub returns-in-Err : goal.returns-in-Err
returns-in-Err c = search rules
