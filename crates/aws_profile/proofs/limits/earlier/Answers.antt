use Rattle.std.proofs.Common.{rules}
use Rattle.aws_profile.proofs.limits.earlier.Goals as goal

pub returns-after-b-a : goal.returns-after-b-a
returns-after-b-a c = search rules
