use Rattle.std.proofs.Common.{rules}
use Rattle.answer_classes.proofs.replies.class_of_code.Goals as goal

pub returns-then-is_code : goal.returns-then-is_code
returns-then-is_code c = search rules

pub returns : goal.returns
returns c = search rules
