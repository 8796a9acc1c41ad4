use Rattle.std.proofs.Common.{rules}
use Rattle.aws_profile.proofs.kinds.assignment_in.Goals as goal

pub returns : goal.returns
returns c = search rules

pub returns-then-is_empty : goal.returns-then-is_empty
returns-then-is_empty c = search rules
