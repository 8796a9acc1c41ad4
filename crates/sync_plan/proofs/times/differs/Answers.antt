use Rattle.std.proofs.Common.{rules}
use Rattle.sync_plan.proofs.times.differs.Goals as goal

pub returns-else-source-dest : goal.returns-else-source-dest
returns-else-source-dest c = search rules
