use Rattle.std.proofs.Common.{rules}
use Rattle.piece_stages.proofs.stages.has_done.Goals as goal

pub returns-in-Fine : goal.returns-in-Fine
returns-in-Fine c = search rules
