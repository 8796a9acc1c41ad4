use Rattle.manager_laws.proofs.Ends.{manager_keeps_schedule, manager_keeps_tasks}
use Rattle.manager_laws.proofs.MetRun.{manager_run_is_met}
use Rattle.manager_laws.proofs.laws.manager_keeps_schedule.Goals as goal

pub returns : goal.returns
returns g c = record {
  tasks = manager_keeps_tasks g.C.Reading.shows;
  whole = manager_keeps_schedule g.C.Reading.shows g.C.Command.plans;
  met = manager_run_is_met;
}
