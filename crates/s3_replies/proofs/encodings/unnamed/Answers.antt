use Rattle.std.proofs.Common.{rules}
use Rattle.s3_replies.proofs.encodings.unnamed.Goals as goal

pub returns-then-eq-clause-memory : goal.returns-then-eq-clause-memory
returns-then-eq-clause-memory c = search rules

pub returns-clause-none : goal.returns-clause-none
returns-clause-none c = search rules
