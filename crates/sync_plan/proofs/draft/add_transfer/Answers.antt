use Rattle.std.proofs.Common.{rules}
use Rattle.sync_plan.proofs.draft.add_transfer.Goals as goal

pub returns-clause-tasks : goal.returns-clause-tasks
returns-clause-tasks c = search rules

pub returns-in-Some-clause-warnings : goal.returns-in-Some-clause-warnings
returns-in-Some-clause-warnings c = search rules
