use Rattle.std.proofs.Common.{rules}
use Rattle.task_works.proofs.works.work_of.Goals as goal

pub returns-clause-work : goal.returns-clause-work
returns-clause-work c = search rules

pub returns-clause-attempts : goal.returns-clause-attempts
returns-clause-attempts c = search rules
