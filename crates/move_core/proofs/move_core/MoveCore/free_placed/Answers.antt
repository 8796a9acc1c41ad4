use Rattle.std.proofs.Common.{rules}
use Rattle.move_core.proofs.move_core.MoveCore.free_placed.Goals as goal

pub returns-in-Place-clause-held : goal.returns-in-Place-clause-held
returns-in-Place-clause-held c = search rules
