use Rattle.world_laws.proofs.MovedTasks as moved
use Rattle.world_laws.proofs.ScheduleWitness.{task_is_met, refused_task_is_met}
use Rattle.world_laws.proofs.TaskEnds.{task_ends}
use Rattle.world_laws.proofs.TaskLaws as laws
use Rattle.world_laws.proofs.laws.task.Goals as goal

pub returns-clause-new : goal.returns-clause-new
returns-clause-new g c = laws.task_is_new g.R.Reading.shows

pub returns-clause-old : goal.returns-clause-old
returns-clause-old g c = laws.task_is_old g.R.Reading.shows

pub returns-clause-whole : goal.returns-clause-whole
returns-clause-whole g c = laws.task_is_whole g.R.Reading.shows

pub returns-clause-moved : goal.returns-clause-moved
returns-clause-moved g c = moved.moved_task_is_new g.R.Reading.shows

pub returns-clause-gone : goal.returns-clause-gone
returns-clause-gone g c = moved.moved_source_is_gone g.R.Reading.shows

pub returns-clause-others : goal.returns-clause-others
returns-clause-others g c = moved.other_objects_stay g.R.Reading.shows

pub returns-clause-met : goal.returns-clause-met
returns-clause-met g c = task_is_met

pub returns-clause-ends : goal.returns-clause-ends
returns-clause-ends g c = task_ends g.R.Reading.shows

pub returns-clause-met_refused : goal.returns-clause-met_refused
returns-clause-met_refused g c = refused_task_is_met
