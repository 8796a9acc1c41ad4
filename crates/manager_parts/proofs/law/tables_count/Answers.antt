use Rattle.manager_parts.proofs.Counting as counting
use Rattle.manager_parts.proofs.law.tables_count.Goals as goal

pub returns : goal.returns
returns c = counting.tables_count
