use Rattle.std.proofs.Common.{rules}
use Rattle.aws_profile.proofs.keys.access_key.Goals as goal

pub returns-in-Some-Some : goal.returns-in-Some-Some
returns-in-Some-Some c = search rules
