use Rattle.std.proofs.Common.{rules}
use Rattle.row_words.proofs.endings.can_end.Goals as goal

pub returns-in-Cancelled : goal.returns-in-Cancelled
returns-in-Cancelled c = search rules
