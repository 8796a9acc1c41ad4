use Rattle.std.proofs.Common.{rules}
use Rattle.answer_classes.proofs.refusals.class_of_code.Goals as goal

pub returns-then-is_busy : goal.returns-then-is_busy
returns-then-is_busy c = search rules
