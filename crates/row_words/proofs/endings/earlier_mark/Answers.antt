use Rattle.std.proofs.Common.{rules}
use Rattle.row_words.proofs.endings.earlier_mark.Goals as goal

pub returns-then-eq : goal.returns-then-eq
returns-then-eq c = search rules
