use Rattle.std.proofs.Common.{rules}
use Rattle.aws_profile.proofs.slots.Slot.after.Goals as goal

pub returns-then-not-is_for : goal.returns-then-not-is_for
returns-then-not-is_for c = search rules

pub returns : goal.returns
returns c = search rules
