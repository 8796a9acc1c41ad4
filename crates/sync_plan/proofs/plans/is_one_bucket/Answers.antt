use Rattle.std.proofs.Common.{rules}
use Rattle.sync_plan.proofs.plans.is_one_bucket.Goals as goal

pub returns-in-Object-Object : goal.returns-in-Object-Object
returns-in-Object-Object c = search rules
