use Rattle.run_steps.proofs.Giving.{given_again, given_first}
use Rattle.run_steps.proofs.Settling.{each_settles, lines_leave_jobs, one_settles}
use Rattle.run_steps.proofs.laws.jobs_follow_events.Goals as goal

pub returns : goal.returns
returns c = record {
  first = given_first;
  again = given_again;
  one = one_settles;
  each = each_settles;
  lines = lines_leave_jobs;
}
