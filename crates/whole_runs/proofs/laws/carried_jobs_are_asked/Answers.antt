use Rattle.whole_runs.proofs.Carried.{carried_jobs_are_asked, carried_runs_are_asked}
use Rattle.whole_runs.proofs.CarriedPut.{carried_job_is_met, carried_runs_are_met}
use Rattle.whole_runs.proofs.laws.carried_jobs_are_asked.Goals as goal

pub returns : goal.returns
returns c = record {
  jobs = carried_jobs_are_asked;
  runs = carried_runs_are_asked;
  met = carried_job_is_met;
  met_in_run = carried_runs_are_met;
}
