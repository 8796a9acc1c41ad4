use Rattle.run_steps.proofs.Making.{jobs_begin, jobs_made}
use Rattle.run_steps.proofs.laws.jobs_begin_with_tasks.Goals as goal

pub returns : goal.returns
returns c = record { begin = jobs_begin; made = jobs_made }
