use Rattle.std.proofs.Common.{rules}
use Rattle.lane_jobs.proofs.attempt.refused.Goals as goal

pub returns : goal.returns
returns c = search rules
