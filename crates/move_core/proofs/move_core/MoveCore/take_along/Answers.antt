use Rattle.std.proofs.Common.{rules}
use Rattle.move_core.proofs.move_core.MoveCore.take_along.Goals as goal

pub returns-in-None-clause-held : goal.returns-in-None-clause-held
returns-in-None-clause-held c = search rules

pub returns-in-None-clause-part : goal.returns-in-None-clause-part
returns-in-None-clause-part c = search rules
