use Rattle.std.proofs.Common.{rules}
use Rattle.step_jobs.proofs.step_jobs.StepJobs.cancel.Goals as goal

pub returns-clause-heard : goal.returns-clause-heard
returns-clause-heard c = search rules
