use Rattle.std.proofs.Common.{rules}
use Rattle.task_works.proofs.states.begin.Goals as goal

pub returns : goal.returns
returns c = search rules
