use Rattle.std.proofs.Common.{rules}
use Rattle.lane_jobs.proofs.tries.ending_by.Goals as goal

pub returns-in-Some : goal.returns-in-Some
returns-in-Some c = search rules
