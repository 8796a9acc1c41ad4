use Rattle.std.proofs.Common.{rules}
use Rattle.move_core.proofs.move_core.MoveCore.has_jobs_out.Goals as goal

pub returns : goal.returns
returns c = search rules
