use Rattle.std.proofs.Common.{rules}
use Rattle.lane_jobs.proofs.carrier.Carrier.most.Goals as goal

pub returns-clause-number : goal.returns-clause-number
returns-clause-number c = search rules

pub returns-clause-bound : goal.returns-clause-bound
returns-clause-bound c = search rules
