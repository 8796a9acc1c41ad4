use Rattle.std.proofs.Common.{rules}
use Rattle.aws_profile.proofs.answers.is_known.Goals as goal

pub returns-else-in_config : goal.returns-else-in_config
returns-else-in_config c = search rules
