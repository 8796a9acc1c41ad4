use Rattle.task_schedule.proofs.Deciding.{marks_are_of_dispatches}
use Rattle.task_schedule.proofs.Removals.{sources_go_once_decided}
use Rattle.task_schedule.proofs.Shown.{outcomes_show}
use Rattle.task_schedule.proofs.laws.outcomes_show.Goals as goal

pub returns : goal.returns
returns g c = record { show = outcomes_show; sources = sources_go_once_decided; marks = marks_are_of_dispatches g.C.Reading.shows g.C.Command.has_status g.C.Command.call_failed }
