use Rattle.std.proofs.Common.{rules}
use Rattle.s3_fakes.proofs.script.Fate.take_turn.Goals as goal

pub returns-in-End : goal.returns-in-End
returns-in-End c = search rules
