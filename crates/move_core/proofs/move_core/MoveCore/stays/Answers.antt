use Rattle.std.proofs.Common.{rules}
use Rattle.move_core.proofs.move_core.MoveCore.stays.Goals as goal

pub returns-then-comes_down : goal.returns-then-comes_down
returns-then-comes_down c = search rules
