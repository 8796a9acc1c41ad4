use Rattle.std.proofs.Common.{rules}
use Rattle.sync_plan.proofs.names.is_marker.Goals as goal

pub returns-then-ends_in_slash : goal.returns-then-ends_in_slash
returns-then-ends_in_slash c = search rules
