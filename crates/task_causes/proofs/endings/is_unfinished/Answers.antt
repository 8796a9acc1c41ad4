use Rattle.std.proofs.lemmas.Grind.{common_steps}
use Rattle.std.proofs.Common.{arith}
use Rattle.task_causes.proofs.endings.is_unfinished.Goals as goal

pub returns-then-made-attempts : goal.returns-then-made-attempts
returns-then-made-attempts c = grind (arith, common_steps)
