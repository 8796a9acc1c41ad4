use Rattle.std.proofs.Common.{rules}
use Rattle.task_slots.proofs.forms.call_move.Goals as goal

pub returns-in-Rename : goal.returns-in-Rename
returns-in-Rename c = search rules
