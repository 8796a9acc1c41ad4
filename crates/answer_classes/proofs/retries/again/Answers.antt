use Rattle.std.proofs.Common.{arith}
use Rattle.std.proofs.lemmas.Grind.{common_steps}
use Rattle.answer_classes.proofs.retries.again.Goals as goal

pub returns-after-matches : goal.returns-after-matches
returns-after-matches c = grind (arith, common_steps)
