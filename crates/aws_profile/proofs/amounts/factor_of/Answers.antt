use Rattle.std.proofs.Common.{rules}
use Rattle.aws_profile.proofs.amounts.factor_of.Goals as goal

pub returns-then-is_unit-2 : goal.returns-then-is_unit-2
returns-then-is_unit-2 c = search rules
