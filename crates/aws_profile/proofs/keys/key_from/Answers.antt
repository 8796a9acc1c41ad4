use Rattle.std.proofs.Common.{rules}
use Rattle.aws_profile.proofs.keys.key_from.Goals as goal

pub returns-in-Some : goal.returns-in-Some
returns-in-Some c = search rules
