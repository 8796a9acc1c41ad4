use Rattle.std.proofs.Common.{rules}
use Rattle.lane_jobs.proofs.attempt.look.Goals as goal

pub returns-in-None : goal.returns-in-None
returns-in-None c = search rules
