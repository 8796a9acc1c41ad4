use Rattle.std.proofs.Common.{rules}
use Rattle.attempts.proofs.marks.tries_of.Goals as goal

pub returns-in-Made : goal.returns-in-Made
returns-in-Made c = search rules
