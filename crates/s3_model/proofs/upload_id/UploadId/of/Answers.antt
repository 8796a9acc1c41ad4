use Rattle.std.proofs.lemmas.Grind.{common_steps}
use Rattle.std.proofs.Common.{arith, rules}
use Rattle.s3_model.proofs.upload_id.UploadId.of.Goals as goal

pub invariant_of-result : goal.invariant_of-result
invariant_of-result c = grind (arith, common_steps)

pub returns-clause-fits : goal.returns-clause-fits
returns-clause-fits c = search rules
