use Rattle.task_schedule.proofs.AskRows.{asks_are_of_schedule}
use Rattle.task_schedule.proofs.laws.jobs_ask_as_scheduled.Goals as goal

pub returns : goal.returns
returns c = asks_are_of_schedule
