-- The outcomes of a task of which no job was given.
use Rattle.std.specs.Prelude.{◌≡◌, ℕ, true, List, [], ◌∷◌, Some}
use Rattle.std.specs.FinMap.{empty}
use Rattle.s3_model.specs.declared.answers.Listed.{Listed}
use Rattle.s3_model.specs.declared.outcomes.Cause.{Cause}
use Rattle.s3_model.specs.declared.outcomes.Cause.TheVariants as cause
use Rattle.s3_model.specs.declared.outcomes.FileCall.TheVariants as call
use Rattle.s3_model.specs.declared.outcomes.Outcome.TheVariants as outcome
use Rattle.s3_model.specs.declared.outcomes.Reason.{Reason}
use Rattle.s3_model.specs.declared.tasks.Task.{Task}
use Rattle.run_promise.specs.Schedule.{Setting}
use Rattle.promise_examples.specs.BothKinds.{download}
use Rattle.promise_examples.specs.Reading.{NeverFailed}
use Rattle.promise_examples.specs.Refused.{path, setting, task}
use Rattle.promise_examples.specs.Runs.{Example}
use Rattle.refused_outcomes.specs.Told.{IsTold, IsRefused}

-- a run in that setting that gave no job
abbrev pub untried : Setting → Example
untried s = record { setting = s; outcomes = []; journal = []; logs = λ lane. []; notes = λ lane. [] }

-- the run was cancelled before it gave a job, memory ran out for each task, or it is a dry run
abbrev pub cancelled : Setting
cancelled = record setting { cancelled_at = Some 0 }

abbrev pub without_memory : Setting
without_memory = record setting { wanted_memory = λ task. true }

abbrev pub dry : Setting
dry = record setting { dryrun = true }

-- the calls of the first task show this failure and no other
abbrev pub FailedBy : Cause → ℕ → Cause → Type 0
FailedBy only n why = (n ≡ 0) × (why ≡ only)

-- a download to the file, with a file there, and with none; and one that is not to replace it
abbrev pub load : Task
load = download (120 ∷ []) [] path 2

abbrev pub fresh_load : Task
fresh_load = record load { fresh = true }

abbrev pub with_task : Task → Setting
with_task of_task = record setting { tasks = of_task ∷ [] }

abbrev pub with_no_file : Setting
with_no_file = record setting { tasks = fresh_load ∷ []; held = empty }

module _ (page_of : List ℕ → Listed) where
  pub record UntriedCausesAreRefused : Type 0 where
    pub cancelled : (why : Reason)
        → IsTold page_of NeverFailed (untried cancelled) task (outcome.Failed (cause.Cancelled why))
    pub not_cancelled : (why : Reason)
        → IsRefused page_of NeverFailed (untried setting) task (outcome.Failed (cause.Cancelled why))
    pub memory : IsTold page_of NeverFailed (untried without_memory) task (outcome.Failed cause.Memory)
    pub no_memory : IsRefused page_of NeverFailed (untried setting) task (outcome.Failed cause.Memory)
    pub read : IsTold page_of (FailedBy (cause.Files call.Read)) (untried setting) task
        (outcome.Failed (cause.Files call.Read))
    pub no_read : IsRefused page_of NeverFailed (untried setting) task (outcome.Failed (cause.Files call.Read))
    -- a call that an upload does not make
    pub no_rename : IsRefused page_of (FailedBy (cause.Files call.Rename)) (untried setting) task
        (outcome.Failed (cause.Files call.Rename))
    pub changed : IsTold page_of (FailedBy cause.Changed) (untried setting) task (outcome.Failed cause.Changed)
    pub not_changed : IsRefused page_of NeverFailed (untried setting) task (outcome.Failed cause.Changed)
    pub blocked : (length : ℕ) → IsTold page_of (FailedBy (cause.Blocked length)) (untried (with_task load)) load
        (outcome.Failed (cause.Blocked length))
    pub not_blocked : (length : ℕ)
        → IsRefused page_of NeverFailed (untried (with_task load)) load (outcome.Failed (cause.Blocked length))
    -- by another length
    pub other_length : IsRefused page_of (FailedBy (cause.Blocked 1)) (untried (with_task load)) load
        (outcome.Failed (cause.Blocked 2))
    -- nothing stands in the way of an upload
    pub upload_blocked : (length : ℕ) → IsRefused page_of (FailedBy (cause.Blocked length)) (untried setting) task
        (outcome.Failed (cause.Blocked length))
    pub dry : IsTold page_of NeverFailed (untried dry) task outcome.Dry
    pub not_dry : IsRefused page_of NeverFailed (untried setting) task outcome.Dry
    pub skipped : IsTold page_of NeverFailed (untried (with_task fresh_load)) fresh_load outcome.Skipped
    -- where nothing stood at its place, where it is to replace, and in a dry run
    pub free_place : IsRefused page_of NeverFailed (untried with_no_file) fresh_load outcome.Skipped
    pub may_replace : IsRefused page_of NeverFailed (untried (with_task load)) load outcome.Skipped
    pub dry_skipped : IsRefused page_of NeverFailed (untried (record (with_task fresh_load) { dryrun = true }))
        fresh_load outcome.Skipped

abbrev pub EachUntriedCauseIsRefused : Type 0
EachUntriedCauseIsRefused = (page_of : List ℕ → Listed) → UntriedCausesAreRefused page_of
