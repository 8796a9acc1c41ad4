use Rattle.std.proofs.Common.{rules}
use Rattle.s3_model.proofs.cases.Cases.find.Goals as goal

pub returns : goal.returns
returns g c = search rules
