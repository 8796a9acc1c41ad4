use Rattle.std.proofs.lemmas.Grind.{common_steps}
use Rattle.std.proofs.Common.{arith}
use Rattle.s3_paths.proofs.uris.S3Uri.print.Goals as goal

pub returns : goal.returns
returns c = grind (arith, common_steps)
