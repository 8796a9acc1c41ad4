use Rattle.std.proofs.lemmas.Grind.{common_steps}
use Rattle.std.proofs.Common.{arith}
use Rattle.s3_paths.proofs.names.local_of.Goals as goal

pub returns-clause-path : goal.returns-clause-path
returns-clause-path c = grind (arith, common_steps)
