use Rattle.std.proofs.Common.{rules}
use Rattle.chunk_plan.proofs.pool.PartPool.give_back.Goals as goal

pub returns : goal.returns
returns c = search rules
