use Rattle.std.proofs.Common.{rules}
use Rattle.sync_plan.proofs.places.is_joined.Goals as goal

pub returns-else-many : goal.returns-else-many
returns-else-many c = search rules
