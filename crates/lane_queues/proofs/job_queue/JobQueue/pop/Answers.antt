use Rattle.std.proofs.Common.{rules}
use Rattle.lane_queues.proofs.job_queue.JobQueue.pop.Goals as goal

pub returns-clause-job : goal.returns-clause-job
returns-clause-job c = search rules

pub returns-clause-rest : goal.returns-clause-rest
returns-clause-rest c = search rules
