use Rattle.std.proofs.Common.{rules}
use Rattle.piece_stages.proofs.stages.is_out.Goals as goal

pub returns-in_default : goal.returns-in_default
returns-in_default c = search rules
