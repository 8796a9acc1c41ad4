use Rattle.std.proofs.Common.{rules}
use Rattle.task_stages.proofs.singles.Singles.none.Goals as goal

pub returns : goal.returns
returns c = search rules
