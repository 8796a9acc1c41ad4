-- Which tasks have a work, and a task that begins.
use Rattle.std.specs.Prelude.{◌≡◌, ◌≤◌, [], false, is_some}
use Rattle.s3_model.specs.declared.settings.Config.{Config}
use Rattle.s3_model.specs.declared.settings.Limits.{Limits}
use Rattle.s3_model.specs.declared.tasks.Task.{Task}
use Rattle.task_acts.specs.Work.{IsWorkOf}
use Rattle.task_core.specs.Machine.{SeenTask, Stands, keeps_tags}
use Rattle.task_stages.specs.Stages.{removes}

-- what is moved is no larger than the largest object; of what is removed the size does not matter
abbrev pub IsWithinObject : Task → Limits → Type 0
IsWithinObject task limits = removes task.kind ≡ false → task.size ≤ limits.max_object

-- It is that task with the work of its settings, and nothing happened to it.
pub record IsBegun (task : Task) (config : Config) (limits : Limits) (t : SeenTask) : Type 0 where
  pub work : IsWorkOf task config limits t.stages.work
  pub stands : Stands t.stages.work [] t
  pub tags : is_some t.tags ≡ keeps_tags t.stages.work
