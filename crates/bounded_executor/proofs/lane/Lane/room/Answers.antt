use Rattle.std.proofs.Common.{rules}
use Rattle.bounded_executor.proofs.lane.Lane.room.Goals as goal

pub returns : goal.returns
returns g c = search rules
