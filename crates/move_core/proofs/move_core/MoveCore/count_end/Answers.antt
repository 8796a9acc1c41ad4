use Rattle.std.proofs.Common.{rules}
use Rattle.move_core.proofs.move_core.MoveCore.count_end.Goals as goal

pub returns-then-ended : goal.returns-then-ended
returns-then-ended c = search rules
