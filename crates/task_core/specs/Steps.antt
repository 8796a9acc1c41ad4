-- What each happening makes of a task, before its outcome is settled.
use Rattle.std.specs.Option.{option_or}
use Rattle.std.specs.Prelude.{◌≡◌, ◌&&◌, ◌||◌, ◌-◌, ℕ, Bool, true, List, Option, Some, None, IfSome, is_some, set, if◌then◌else◌}
use Rattle.std.specs.List.{list_any}
use Rattle.jobs.specs.Endings.{SeenCarried}
use Rattle.kept_jobs.specs.Slots.{job_at}
use Rattle.kept_jobs.specs.Tags.{HasPart, SeenTags}
use Rattle.job_terms.specs.Ops.{is_op}
use Rattle.s3_model.specs.declared.outcomes.Reason.{Reason}
use Rattle.s3_model.specs.declared.requests.Op.{Op}
use Rattle.task_acts.specs.declared.acts.Act.{Act}
use Rattle.task_acts.specs.declared.acts.Act.TheVariants as act
use Rattle.task_acts.specs.declared.acts.FileCame.{FileCame}
use Rattle.task_acts.specs.declared.acts.Stage.{Stage}
use Rattle.task_acts.specs.declared.work.Work.{Work}
use Rattle.task_acts.specs.Ends.{decides, has_tries, is_uncertain}
use Rattle.task_acts.specs.Failures.{carried_cause, file_cause, is_cut_short, is_memory}
use Rattle.task_acts.specs.Histories.{is_act, sent}
use Rattle.task_acts.specs.Kept.{etag_in, is_kept, upload_in}
use Rattle.task_acts.specs.Stages.{carried_stage, file_stage, given_stage}
use Rattle.task_acts.specs.Work.{piece_op}
use Rattle.task_ends.specs.Causes.{failure_of, is_stopped_by}
use Rattle.task_stages.specs.Stages.{SeenStages, stage_by}
use Rattle.task_core.specs.Machine.{SeenTask}
use Rattle.task_core.specs.Shown.{kept_if}
use Rattle.std.specs.Prelude.{length}

-- one act is so far now
pub record IsMarked (of_act : Act) (how : Stage) (s new : SeenStages) : Type 0 where
  pub work : new.work ≡ s.work
  pub stages : (other : Act) → stage_by new other ≡ (if is_act other of_act then how else stage_by s other)

pub record IsGiven (given : Act) (t new : SeenTask) : Type 0 where
  pub marked : IsMarked given (given_stage (stage_by t.stages given)) t.stages new.stages
  pub causes : new.causes ≡ t.causes
  pub outcome : new.outcome ≡ t.outcome
  pub kept : (of_op : Op) (number : ℕ) → job_at new.kept of_op number
      ≡ (if is_act (act.Send of_op number) given then None else job_at t.kept of_op number)
  pub tags : new.tags ≡ t.tags
  pub upload : new.upload ≡ t.upload

pub record IsReturned (called : Act) (result : FileCame) (t new : SeenTask) : Type 0 where
  pub marked : IsMarked called (file_stage result) t.stages new.stages
  pub failing : new.causes.failing ≡ (t.causes.failing || is_some (file_cause called result))
  pub first : new.causes.first ≡ (if t.causes.failing then t.causes.first else file_cause called result)
  pub last : new.causes.last ≡ t.causes.last
  pub reason : new.causes.reason ≡ t.causes.reason
  pub memory : new.causes.memory ≡ (t.causes.memory || is_memory (file_cause called result))
  pub uncertain : new.causes.uncertain ≡ t.causes.uncertain
  pub outcome : new.outcome ≡ t.outcome
  pub kept : new.kept ≡ t.kept
  pub tags : new.tags ≡ t.tags
  pub upload : new.upload ≡ t.upload

pub record IsCancelled (why : Reason) (t new : SeenTask) : Type 0 where
  pub stages : new.stages ≡ t.stages
  pub failing : new.causes.failing ≡ t.causes.failing
  pub first : new.causes.first ≡ t.causes.first
  pub last : new.causes.last ≡ t.causes.last
  pub reason : new.causes.reason ≡ option_or t.causes.reason (Some why)
  pub memory : new.causes.memory ≡ t.causes.memory
  pub uncertain : new.causes.uncertain ≡ t.causes.uncertain
  pub outcome : new.outcome ≡ t.outcome
  pub kept : new.kept ≡ t.kept
  pub tags : new.tags ≡ t.tags
  pub upload : new.upload ≡ t.upload

pub record IsTaken (of_op : Op) (number : ℕ) (t new : SeenTask) : Type 0 where
  pub stages : new.stages ≡ t.stages
  pub causes : new.causes ≡ t.causes
  pub outcome : new.outcome ≡ t.outcome
  pub kept : (other : Op) (at : ℕ) → job_at new.kept other at
      ≡ (if is_act (act.Send other at) (act.Send of_op number) then None else job_at t.kept other at)
  pub tags : new.tags ≡ t.tags
  pub upload : new.upload ≡ t.upload

-- a part that came with that entity tag, or with none
abbrev pub tagged : (is_part : Bool) → (number : ℕ) → Option (List ℕ) → Option SeenTags → Option SeenTags
tagged is_part number tag None = None
tagged is_part number tag (Some tags) =
    if is_part then Some (record tags { tags = set tags.tags (number - tags.first) tag }) else Some tags

abbrev pub is_part : Work → Op → Bool
is_part w of_op = is_op of_op (piece_op w.of_kind w.small)

-- a job of that work came, where something had stopped the task or not
pub record IsCameAt (w : Work) (stopped : Bool) (carried : SeenCarried) (t new : SeenTask) : Type 0 where
  pub marked : IsMarked (sent carried) (carried_stage w stopped carried) t.stages new.stages
  pub failing : new.causes.failing
      ≡ (t.causes.failing || is_some (failure_of (is_cut_short w carried) (carried_cause w carried)))
  pub first : new.causes.first ≡ (if t.causes.failing then t.causes.first
      else failure_of (is_cut_short w carried) (carried_cause w carried))
  pub last : new.causes.last ≡ (if decides w carried && has_tries carried
      then carried_cause w carried else t.causes.last)
  pub reason : new.causes.reason ≡ t.causes.reason
  pub memory : new.causes.memory
      ≡ (t.causes.memory || is_memory (failure_of (is_cut_short w carried) (carried_cause w carried)))
  pub uncertain : new.causes.uncertain
      ≡ (t.causes.uncertain || (decides w carried && list_any is_uncertain carried.tries))
  pub outcome : new.outcome ≡ t.outcome
  pub kept : (other : Op) (at : ℕ) → job_at new.kept other at
      ≡ (if is_act (act.Send other at) (sent carried)
      then kept_if (is_kept w stopped carried) carried.job (length carried.tries)
      else job_at t.kept other at)
  pub part : IfSome t.tags (λ tags. is_part w carried.job.id.op ≡ true → HasPart tags carried.job.id.number)
  pub tags : new.tags
      ≡ tagged (is_part w carried.job.id.op) carried.job.id.number (etag_in carried.ending) t.tags
  pub upload : new.upload ≡ option_or (upload_in carried) t.upload

abbrev pub IsCame : SeenCarried → SeenTask → SeenTask → Type 0
IsCame carried t new = IsCameAt t.stages.work (is_stopped_by t.causes) carried t new
