use Rattle.std.proofs.Common.{rules}
use Rattle.upload_plans.proofs.plan.content_for.Goals as goal

pub returns-in-Some-clause-content : goal.returns-in-Some-clause-content
returns-in-Some-clause-content c = search rules
