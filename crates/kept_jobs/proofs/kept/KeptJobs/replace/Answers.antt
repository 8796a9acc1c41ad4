use Rattle.std.proofs.Common.{arith, rules}
use Rattle.std.proofs.lemmas.Grind.{common_steps}
use Rattle.kept_jobs.proofs.kept.KeptJobs.replace.Goals as goal

pub returns-clause-result : goal.returns-clause-result
returns-clause-result c = grind (arith, common_steps)

pub returns-clause-jobs : goal.returns-clause-jobs
returns-clause-jobs c = search rules
