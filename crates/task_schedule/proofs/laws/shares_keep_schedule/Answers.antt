use Rattle.task_schedule.proofs.Breaks.{each_breaks_alone}
use Rattle.task_schedule.proofs.Failures.{shares_keep_schedule}
use Rattle.task_schedule.proofs.Witness.{run_is_met}
use Rattle.task_schedule.proofs.laws.shares_keep_schedule.Goals as goal

pub returns : goal.returns
returns g c = record {
  keep = shares_keep_schedule g.R.Reading.shows;
  met = run_is_met;
  breaks = each_breaks_alone;
}
