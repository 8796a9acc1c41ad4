use Rattle.std.proofs.Common.{rules}
use Rattle.file_table.proofs.table.file_above.Goals as goal

pub returns-then-has_front-clause-found : goal.returns-then-has_front-clause-found
returns-then-has_front-clause-found c = search rules

pub loop-end-preserved : goal.loop-end-preserved
loop-end-preserved c = search rules
