use Rattle.step_jobs.proofs.Requests.{ready_steps_have_requests}
use Rattle.step_jobs.proofs.law.ready_steps_have_requests.Goals as goal

pub returns : goal.returns
returns c = ready_steps_have_requests
