use Rattle.std.proofs.Common.{rules}
use Rattle.jobs.proofs.ask.range_of_get.Goals as goal

pub returns-else-number-eq0 : goal.returns-else-number-eq0
returns-else-number-eq0 c = search rules
