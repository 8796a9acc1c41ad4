use Rattle.std.proofs.Common.{rules}
use Rattle.answer_classes.proofs.replies.may_fail_late.Goals as goal

pub returns-in-Head-9 : goal.returns-in-Head-9
returns-in-Head-9 c = search rules
