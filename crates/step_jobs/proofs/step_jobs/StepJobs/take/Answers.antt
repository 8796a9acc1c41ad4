use Rattle.std.proofs.lemmas.Grind.{common_steps}
use Rattle.std.proofs.Common.{arith, rules}
use Rattle.step_jobs.proofs.step_jobs.StepJobs.take.Goals as goal

pub take_at-requires : goal.take_at-requires
take_at-requires c = grind (arith, common_steps)

pub unreachable-requires : goal.unreachable-requires
unreachable-requires c = search rules

pub returns-clause-shares : goal.returns-clause-shares
returns-clause-shares c = search rules
