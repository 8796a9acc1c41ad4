use Rattle.std.proofs.Common.{arith, rules}
use Rattle.answer_classes.proofs.Rows.{open_ended}
use Rattle.answer_classes.proofs.classes.class_of_answer.Goals as goal

pub returns-in_default-clause-classed : goal.returns-in_default-clause-classed
returns-in_default-clause-classed c = grind (arith, open_ended)

pub returns-in_default-clause-interim : goal.returns-in_default-clause-interim
returns-in_default-clause-interim c = search rules
