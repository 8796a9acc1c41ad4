use Rattle.std.proofs.Common.{rules}
use Rattle.row_words.proofs.endings.lost.Goals as goal

pub returns-clause-ends : goal.returns-clause-ends
returns-clause-ends c = search rules
