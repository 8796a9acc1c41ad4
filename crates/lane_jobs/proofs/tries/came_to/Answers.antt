use Rattle.std.proofs.Common.{rules}
use Rattle.lane_jobs.proofs.tries.came_to.Goals as goal

pub returns-then-again-clause-tries : goal.returns-then-again-clause-tries
returns-then-again-clause-tries c = search rules

pub returns-else-again-clause-tries : goal.returns-else-again-clause-tries
returns-else-again-clause-tries c = search rules

pub returns-else-again-clause-again : goal.returns-else-again-clause-again
returns-else-again-clause-again c = search rules

pub returns-in-Memory-clause-ends : goal.returns-in-Memory-clause-ends
returns-in-Memory-clause-ends c = search rules
