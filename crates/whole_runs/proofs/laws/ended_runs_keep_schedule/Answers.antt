use Rattle.whole_runs.proofs.Whole.{runs_are_whole, runs_keep_whole_schedule, tasks_keep_schedule}
use Rattle.whole_runs.proofs.Witness.{carried_run_is_met}
use Rattle.whole_runs.proofs.laws.ended_runs_keep_schedule.Goals as goal

pub returns : goal.returns
returns g c = record {
  whole = runs_are_whole g.C.Reading.shows;
  tasks = tasks_keep_schedule g.C.Reading.shows;
  all = runs_keep_whole_schedule g.C.Reading.shows g.C.Command.plans;
  met = carried_run_is_met;
}
