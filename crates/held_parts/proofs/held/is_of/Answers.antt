use Rattle.std.proofs.Common.{rules}
use Rattle.held_parts.proofs.held.is_of.Goals as goal

pub returns-then-held-task : goal.returns-then-held-task
returns-then-held-task c = search rules
