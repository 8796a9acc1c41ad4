-- What one task as a machine of acts keeps of its history.
use Rattle.std.specs.Option.{option_or}
use Rattle.std.specs.Prelude.{◌≡◌, ◌≤◌, ◌<◌, ◌+◌, [], ◌&&◌, ◌||◌, ℕ, Bool, true, List, Option, Some, None, IfSome, is_some, length, not, replicate, if◌then◌else◌}
use Rattle.kept_jobs.specs.Slots.{SeenKept, job_at}
use Rattle.kept_jobs.specs.Tags.{HasPart, SeenTags, tag_at}
use Rattle.s3_model.specs.declared.outcomes.Outcome.{Outcome}
use Rattle.s3_model.specs.declared.requests.Op.{Op}
use Rattle.task_acts.specs.declared.acts.Act.{Act}
use Rattle.task_acts.specs.declared.acts.Act.TheVariants as act
use Rattle.task_acts.specs.declared.work.Work.{Work}
use Rattle.task_acts.specs.Ends.{has_uncertain, last_cause, outcome_of, removal}
use Rattle.task_acts.specs.Failures.{first_failure, first_reason, wanted_memory}
use Rattle.task_acts.specs.Histories.{History}
use Rattle.task_acts.specs.Kept.{etag_of, kept_job, upload_of}
use Rattle.task_acts.specs.Rule.{first_ready, is_decided, is_idle}
use Rattle.task_acts.specs.Stages.{has_done, stage}
use Rattle.task_acts.specs.Work.{first_number, piece_op}
use Rattle.task_causes.specs.Pieces.{HasNumber}
use Rattle.task_ends.specs.Causes.{SeenCauses, how_ended_by, is_stopped_by}
use Rattle.task_readiness.specs.Readiness.{has_parts}
use Rattle.task_stages.specs.Stages.{HasPiece, SeenStages, piece_count, stage_by}

-- what contracts see of a task
pub record SeenTask : Type 0 where
  pub stages : SeenStages
  pub causes : SeenCauses
  pub outcome : Option Outcome
  pub kept : SeenKept
  -- the entity tags of its parts, until they are given away
  pub tags : Option SeenTags
  pub upload : Option (List ℕ)

-- the places for jobs and entity tags are those of the task's acts
pub record IsSound (s : SeenStages) (kept : SeenKept) (tags : Option SeenTags) : Type 0 where
  pub kept_work : kept.work ≡ s.work
  pub tags_are : IfSome tags (λ x. (has_parts s.work.of_kind ≡ true) × (x.first ≡ first_number s.work)
      × (length x.tags ≡ length s.pieces))
  pub numbers : (n : ℕ) → HasPiece s n → HasNumber s.work n
  pub attempts : s.work.attempts ≤ 10

-- ---- by what it keeps

abbrev pub ready_by : SeenTask → Option Act
ready_by t = first_ready t.stages.work (stage_by t.stages) (is_stopped_by t.causes)

abbrev pub decided_by : SeenTask → Bool
decided_by t = is_decided t.stages.work (stage_by t.stages) (is_stopped_by t.causes)

-- every step succeeded
abbrev pub whole_by : SeenTask → Bool
whole_by t = decided_by t && (not t.stages.work.moves || has_done (stage_by t.stages (removal t.stages.work.of_kind)))

-- an act is ready or out
abbrev pub goes_on_by : SeenTask → Bool
goes_on_by t = is_some (ready_by t) || not (is_idle t.stages.work (stage_by t.stages) (is_stopped_by t.causes))

abbrev pub settled_by : SeenTask → Option Outcome
settled_by t = if goes_on_by t then None else how_ended_by (whole_by t) (decided_by t) t.causes

-- ---- a task in a history

-- the number of a part, and the act by which it is sent
abbrev pub part_act : Work → (number : ℕ) → Act
part_act w number = act.Send (piece_op w.of_kind w.small) number

-- It is the task of that work after that history.
pub record Stands (w : Work) (history : History) (t : SeenTask) : Type 0 where
  pub work_is : t.stages.work ≡ w
  pub stages : (of_act : Act) → stage w history of_act ≡ stage_by t.stages of_act
  pub failing_is : t.causes.failing ≡ is_some (first_failure w history)
  pub reason_is : t.causes.reason ≡ first_reason history
  pub memory_is : t.causes.memory ≡ wanted_memory w history
  pub uncertain_is : t.causes.uncertain ≡ has_uncertain w history
  pub first_is : t.outcome ≡ None → t.causes.first ≡ first_failure w history
  pub last_is : t.outcome ≡ None → t.causes.last ≡ last_cause w history
  pub outcome_is : t.outcome ≡ outcome_of w history
  pub kept_are : (of_op : Op) (number : ℕ) → job_at t.kept of_op number ≡ kept_job w history (act.Send of_op number)
  pub upload_is : t.upload ≡ upload_of history
  pub tags_are : IfSome t.tags (λ tags. (number : ℕ) → HasPart tags number
      → tag_at tags number ≡ etag_of history (part_act w number))

-- Its outcome was settled, if it had none: nothing else changed, but that the outcome took its cause.
pub record IsSettled (t new : SeenTask) : Type 0 where
  pub stages : new.stages ≡ t.stages
  pub failing : new.causes.failing ≡ t.causes.failing
  pub reason : new.causes.reason ≡ t.causes.reason
  pub memory : new.causes.memory ≡ t.causes.memory
  pub uncertain : new.causes.uncertain ≡ t.causes.uncertain
  pub first : new.outcome ≡ None → new.causes.first ≡ t.causes.first
  pub last : new.outcome ≡ None → new.causes.last ≡ t.causes.last
  pub outcome : new.outcome ≡ option_or t.outcome (settled_by t)
  pub kept : new.kept ≡ t.kept
  pub tags : new.tags ≡ t.tags
  pub upload : new.upload ≡ t.upload

-- the numbers of its pieces are those of pieces
abbrev pub IsNumbered : Work → Type 0
IsNumbered w = (n : ℕ) → first_number w ≤ n → n < first_number w + piece_count w → HasNumber w n

-- the entity tags of the parts are kept of an upload and of a copy in parts
abbrev pub keeps_tags : Work → Bool
keeps_tags w = has_parts w.of_kind && not w.small

-- no part came
abbrev pub HasTags : Work → Option SeenTags → Type 0
HasTags w tags = IfSome tags (λ x. (has_parts w.of_kind ≡ true) × (x.first ≡ first_number w)
    × (x.tags ≡ replicate w.count None))

abbrev pub tags_in : Option SeenTags → List (Option (List ℕ))
tags_in None = []
tags_in (Some x) = x.tags
