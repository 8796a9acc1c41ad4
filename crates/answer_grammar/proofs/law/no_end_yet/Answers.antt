use Rattle.answer_grammar.proofs.OpenTalk.{no_end_yet}
use Rattle.answer_grammar.proofs.law.no_end_yet.Goals as goal

pub returns : goal.returns
returns c = no_end_yet
