use Rattle.manager_laws.proofs.Ends.{ends_are_whole, jobs_are_handed_out, journals_are_told}
use Rattle.manager_laws.proofs.MetRun.{manager_run_is_met}
use Rattle.manager_laws.proofs.laws.manager_ends_runs.Goals as goal

pub returns : goal.returns
returns c = record {
  over = ends_are_whole;
  journal = journals_are_told;
  jobs = jobs_are_handed_out;
  met = manager_run_is_met;
}
