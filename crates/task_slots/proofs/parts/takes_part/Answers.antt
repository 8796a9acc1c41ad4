use Rattle.std.proofs.Common.{rules}
use Rattle.task_slots.proofs.parts.takes_part.Goals as goal

pub returns-in-Put : goal.returns-in-Put
returns-in-Put c = search rules
