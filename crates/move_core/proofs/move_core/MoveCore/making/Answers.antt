use Rattle.std.proofs.Common.{rules}
use Rattle.move_core.proofs.move_core.MoveCore.making.Goals as goal

pub returns-then-self : goal.returns-then-self
returns-then-self c = search rules
