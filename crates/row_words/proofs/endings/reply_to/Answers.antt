use Rattle.std.proofs.Common.{rules}
use Rattle.row_words.proofs.endings.reply_to.Goals as goal

pub returns-in-Put : goal.returns-in-Put
returns-in-Put c = search rules
