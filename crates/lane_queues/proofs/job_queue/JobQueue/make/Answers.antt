use Rattle.std.proofs.Common.{rules}
use Rattle.lane_queues.proofs.job_queue.JobQueue.make.Goals as goal

pub invariant_of-result : goal.invariant_of-result
invariant_of-result c = search rules
