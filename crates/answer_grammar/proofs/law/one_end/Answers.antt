use Rattle.answer_grammar.proofs.OneEnd.{one_end}
use Rattle.answer_grammar.proofs.law.one_end.Goals as goal

pub returns : goal.returns
returns c = one_end
