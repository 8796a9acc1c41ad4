use Rattle.std.proofs.Common.{rules}
use Rattle.sync_plan.proofs.judge.read_key.Goals as goal

pub returns-in-Some : goal.returns-in-Some
returns-in-Some c = search rules
