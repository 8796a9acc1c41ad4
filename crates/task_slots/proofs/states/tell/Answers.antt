use Rattle.std.proofs.Common.{rules}
use Rattle.task_slots.proofs.states.tell.Goals as goal

pub returns-in-Some-clause-stands : goal.returns-in-Some-clause-stands
returns-in-Some-clause-stands c = search rules
