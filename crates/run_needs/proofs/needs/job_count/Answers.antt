use Rattle.std.proofs.Common.{arith}
use Rattle.run_needs.proofs.JobLemmas.{job_counts}
use Rattle.run_needs.proofs.needs.job_count.Goals as goal

pub returns-in-Copy-clause-count : goal.returns-in-Copy-clause-count
returns-in-Copy-clause-count c = grind (arith, job_counts)
