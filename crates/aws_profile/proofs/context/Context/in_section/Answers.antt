use Rattle.std.proofs.Common.{rules}
use Rattle.aws_profile.proofs.context.Context.in_section.Goals as goal

pub returns-clause-above : goal.returns-clause-above
returns-clause-above c = search rules
