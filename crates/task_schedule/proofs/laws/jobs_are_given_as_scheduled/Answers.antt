use Rattle.task_schedule.proofs.Givings.{aborted_is_not_completed, aborts_come_last, created_is_ended, none_is_given_thrice, only_cut_is_given_again, stops_givings}
use Rattle.task_schedule.proofs.Sources.{sources_go_after_success}
use Rattle.task_schedule.proofs.laws.jobs_are_given_as_scheduled.Goals as goal

pub returns : goal.returns
returns c = record {
  again = only_cut_is_given_again;
  thrice = none_is_given_thrice;
  stops = stops_givings;
  last = aborts_come_last;
  ends = created_is_ended;
  aborted = aborted_is_not_completed;
  sources = sources_go_after_success;
}
