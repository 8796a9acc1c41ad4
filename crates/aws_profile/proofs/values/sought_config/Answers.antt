use Rattle.std.proofs.Common.{rules}
use Rattle.aws_profile.proofs.values.sought_config.Goals as goal

pub returns : goal.returns
returns c = search rules
