use Rattle.std.proofs.Common.{rules}
use Rattle.answer_grammar.proofs.head.framing_of.Goals as goal

pub returns-then-head_only-clause-value : goal.returns-then-head_only-clause-value
returns-then-head_only-clause-value c = search rules

pub returns-then-chunked-2-clause-value : goal.returns-then-chunked-2-clause-value
returns-then-chunked-2-clause-value c = search rules

pub returns-in-Some-clause-value : goal.returns-in-Some-clause-value
returns-in-Some-clause-value c = search rules

pub returns-in-None-clause-value : goal.returns-in-None-clause-value
returns-in-None-clause-value c = search rules
