use Rattle.std.proofs.Common.{rules}
use Rattle.lane_queues.proofs.job_queue.JobQueue.push.Goals as goal

pub returns : goal.returns
returns c = search rules
