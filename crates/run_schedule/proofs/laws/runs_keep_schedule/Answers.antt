use Rattle.run_schedule.proofs.Parts.{parts_runs_are_met}
use Rattle.run_schedule.proofs.Scheduled.{runs_are_scheduled}
use Rattle.run_schedule.proofs.Whole.{runs_keep_schedule}
use Rattle.run_schedule.proofs.Witness.{whole_run_is_met}
use Rattle.run_schedule.proofs.laws.runs_keep_schedule.Goals as goal

pub returns : goal.returns
returns g c = record {
  tasks = runs_keep_schedule g.C.Reading.shows;
  whole = runs_are_scheduled g.C.Reading.shows g.C.Command.plans;
  met = whole_run_is_met;
  met_in_parts = parts_runs_are_met;
}
