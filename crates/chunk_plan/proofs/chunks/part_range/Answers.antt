use Rattle.std.proofs.Common.{rules}
use Rattle.chunk_plan.proofs.chunks.part_range.Goals as goal

pub returns-clause-range : goal.returns-clause-range
returns-clause-range c = search rules

pub returns-clause-some : goal.returns-clause-some
returns-clause-some c = search rules
