-- Each step of a task that is ready has a request.
use Rattle.std.specs.Prelude.{◌≡◌, ◌-◌, ◌*◌, ◌<◌, ◌≤◌, ◌^◌, ℕ, true, List, Option}
use Rattle.jobs.specs.Jobs.{HasRange, IsOfTask, IsStepAsk}
use Rattle.job_terms.specs.Jobs.{Origin, Target}
use Rattle.s3_model.specs.Lists.{Reserved}
use Rattle.s3_model.specs.Parts.{piece_range}
use Rattle.s3_model.specs.Validity.{IsValidConfig, IsValidLimits}
use Rattle.s3_model.specs.declared.requests.Ask.{Ask}
use Rattle.s3_model.specs.declared.requests.Op.{Op}
use Rattle.s3_model.specs.declared.settings.Config.{Config}
use Rattle.s3_model.specs.declared.settings.Limits.{Limits}
use Rattle.s3_model.specs.declared.tasks.Kind.{Kind}
use Rattle.s3_model.specs.declared.tasks.Kind.TheVariants as kind
use Rattle.s3_model.specs.declared.tasks.Task.{Task}
use Rattle.task_acts.specs.declared.acts.Act.TheVariants as act
use Rattle.task_acts.specs.declared.work.Work.{Work}
use Rattle.task_acts.specs.Histories.{History}
use Rattle.task_acts.specs.Kept.{IsHistory, upload_of}
use Rattle.task_acts.specs.Rule.{is_ready_in}
use Rattle.task_acts.specs.Work.{IsWorkOf}
use Rattle.kept_jobs.specs.Steps.{HasTags}

-- the objects that the requests of a task of that kind name
abbrev pub HasObjects : Kind → Task → Type 0
HasObjects kind.Upload task = Target task
HasObjects kind.Download task = Origin task
HasObjects kind.Copy task = Target task × Origin task
HasObjects kind.RemoveObject task = Target task
HasObjects kind.RemoveFile task = Unit {0}

-- a step with this piece, upload and entity tags is one of the task, and has a request
pub record HasRequest (task : Task) (range : ℕ × ℕ) (upload : Option (List ℕ)) (etags : Option (Reserved (List ℕ)))
    (of_op : Op) (number : ℕ) : Type 0 where
  pub of_task : IsOfTask task of_op
  pub asked : Ask
  pub asks : IsStepAsk task range upload etags of_op number asked
  pub has_range : HasRange of_op number range

-- the piece of that number begins within the size; number 0 is of the first one
abbrev pub BeginsWithin : Work → (number : ℕ) → Type 0
BeginsWithin w number = (number - 1) * w.piece ≤ w.size

abbrev pub ReadyStepsHaveRequests : Type 0
ReadyStepsHaveRequests = (task : Task) (config : Config) (limits : Limits) (w : Work) (history : History) (of_op : Op)
    (number : ℕ) (etags : Option (Reserved (List ℕ)))
    → IsValidConfig config → IsValidLimits limits → task.size < 2 ^ 64 → IsWorkOf task config limits w
    → HasObjects task.kind task → IsHistory w history → is_ready_in w history (act.Send of_op number) ≡ true
    → HasTags w history of_op etags
    → HasRequest task (piece_range w.size w.piece number) (upload_of history) etags of_op number × BeginsWithin w number
