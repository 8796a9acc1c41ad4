use Rattle.std.proofs.lemmas.Grind.{common_steps}
use Rattle.std.proofs.Common.{rules, arith}
use Rattle.s3_model.proofs.bytes.Bytes.add.Goals as goal

pub invariant_of-self : goal.invariant_of-self
invariant_of-self c = search rules

pub returns-clause-bytes : goal.returns-clause-bytes
returns-clause-bytes c = grind (arith, common_steps)
