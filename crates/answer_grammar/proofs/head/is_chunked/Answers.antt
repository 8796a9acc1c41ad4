use Rattle.std.proofs.Common.{rules}
use Rattle.answer_grammar.proofs.head.is_chunked.Goals as goal

pub returns-in-Chunked-clause-value : goal.returns-in-Chunked-clause-value
returns-in-Chunked-clause-value c = search rules
