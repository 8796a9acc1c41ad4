-- What a job is given that a task is ready for, and that it fits.
use Rattle.std.specs.Prelude.{◌≡◌, ◌≤◌, ◌<◌, ◌^◌, ℕ, true, IfSome, is_some}
use Rattle.run_needs.specs.Needs.{part_bytes}
use Rattle.job_terms.specs.Buffers.{holds_buffer}
use Rattle.s3_model.specs.Validity.{IsValidConfig, IsValidLimits}
use Rattle.s3_model.specs.declared.settings.Config.{Config}
use Rattle.s3_model.specs.declared.settings.Limits.{Limits}
use Rattle.s3_model.specs.declared.tasks.Task.{Task}
use Rattle.step_jobs.specs.declared.step_jobs.Given.{Given}
use Rattle.step_jobs.specs.Formed.{FitsJob}
use Rattle.step_jobs.specs.Requests.{HasObjects}
use Rattle.task_acts.specs.declared.acts.Act.TheVariants as act
use Rattle.task_acts.specs.declared.work.Work.{Work}
use Rattle.task_acts.specs.Histories.{History}
use Rattle.task_acts.specs.Kept.{IsHistory, upload_of}
use Rattle.task_acts.specs.Rule.{is_ready_in}
use Rattle.task_acts.specs.Work.{IsWorkOf}
use Rattle.kept_jobs.specs.Steps.{HasTags}

-- The upload and the entity tags are those that the history says, and a part is there where the op takes one, with that
-- room.
pub record IsGivenIn (w : Work) (h : History) (room : ℕ) (given : Given) : Type 0 where
  pub upload : given.upload ≡ upload_of h
  pub tags : HasTags w h given.id.op given.etags
  pub takes : is_some given.part ≡ holds_buffer given.id.op
  pub room_is : IfSome given.part (λ part. room ≤ part.bytes.room)

-- the task is one that a plan may have, with its work
pub record HasItsWork (config : Config) (limits : Limits) (task : Task) (w : Work) : Type 0 where
  pub config_is : IsValidConfig config
  pub limits_are : IsValidLimits limits
  pub size : task.size < 2 ^ 64
  pub work : IsWorkOf task config limits w
  pub objects : HasObjects task.kind task

abbrev pub GivenJobsFit : Type 0
GivenJobsFit = (config : Config) (limits : Limits) (task : Task) (w : Work) (h : History) (room : ℕ) (given : Given)
    → HasItsWork config limits task w → part_bytes w ≤ room → IsHistory w h
    → is_ready_in w h (act.Send given.id.op given.id.number) ≡ true → IsGivenIn w h room given → FitsJob task w given
