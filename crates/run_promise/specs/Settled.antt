-- What of a run's setting follows from its outcomes, warnings and status, when a run may be cancelled, and the setting
-- that a run claims.
use Rattle.std.specs.Prelude.{◌≡◌, ◌==◌, ℕ, Bool, true, false, List, Option, Some, None, IsSome, filter_map, min}
use Rattle.std.specs.Prelude.{slice_get}
use Rattle.s3_model.specs.declared.outcomes.Cause.{Cause}
use Rattle.s3_model.specs.declared.outcomes.Cause.TheVariants as cause
use Rattle.s3_model.specs.declared.outcomes.Outcome.{Outcome}
use Rattle.s3_model.specs.declared.outcomes.Outcome.TheVariants as outcome
use Rattle.s3_model.specs.declared.outcomes.Reason.{Reason}
use Rattle.s3_model.specs.declared.outcomes.Reason.TheVariants as reason
use Rattle.s3_model.specs.declared.tasks.Warning.{Warning}
use Rattle.s3_model.specs.declared.tasks.Warning.TheVariants as warning
use Rattle.s3_model.specs.declared.outcomes.Event.{Event}
use Rattle.s3_model.specs.declared.settings.Config.{Config}
use Rattle.s3_model.specs.declared.settings.Limits.{Limits}
use Rattle.s3_model.specs.declared.tasks.Kind.{Kind}
use Rattle.s3_model.specs.declared.tasks.Kind.TheVariants as kind
use Rattle.s3_model.specs.declared.tasks.Task.{Task}
use Rattle.s3_model.specs.Files.{FileStore, HeldFile}
use Rattle.s3_model.specs.Maps.{MapOf}
use Rattle.s3_model.specs.Talks.{Talk, Note}
use Rattle.local_files.specs.Calls.{Call}
use Rattle.run_promise.specs.Schedule.{Setting}
use Rattle.run_promise.specs.Truthful.{Shown}

-- ---- causes and warnings

abbrev pub cause_of : Option Outcome → Option Cause
cause_of (Some (outcome.Copied why)) = Some why
cause_of (Some (outcome.Failed why)) = Some why
cause_of (Some (outcome.Unknown why)) = Some why
cause_of how = None

abbrev pub is_memory : Option Cause → Bool
is_memory (Some cause.Memory) = true
is_memory why = false

abbrev pub is_dry : Outcome → Bool
is_dry outcome.Dry = true
is_dry how = false

abbrev pub left_by : Warning → Option (List ℕ)
left_by (warning.TempLeft path) = Some path
left_by other = None

abbrev pub untimed_by : Warning → Option (List ℕ)
untimed_by (warning.TimeNotSet path) = Some path
untimed_by other = None

-- ---- cancels

-- A run is cancelled where an output failed, where its listing ended early, or memory ran out; 70 is the status of such
-- a run.
abbrev pub MayCancel : ℕ → Type 0 → Type 0 → Reason → Type 0
MayCancel status OutputFailed ListingEnded reason.OutputFailed = OutputFailed
MayCancel status OutputFailed ListingEnded reason.ListingEnded = ListingEnded
MayCancel status OutputFailed ListingEnded reason.OutOfMemory = status ≡ 70
MayCancel status OutputFailed ListingEnded reason.TaskFailed = ⊥

-- ---- file calls that failed

abbrev pub is_upload_kind : Kind → Bool
is_upload_kind kind.Upload = true
is_upload_kind other = false

abbrev pub is_upload : Option Task → Bool
is_upload None = false
is_upload (Some task) = is_upload_kind task.kind

-- A file call of the task failed, its file gave fewer bytes than planned, or memory ran out for it, as its outcome
-- tells. That the source has changed tells it of an upload alone; of a download or a copy an answer said so.
abbrev pub tells_file_failed : Option Task → Option Outcome → Bool
tells_file_failed task (Some (outcome.Failed (cause.Files call))) = true
tells_file_failed task (Some (outcome.Failed (cause.Blocked length))) = true
tells_file_failed task (Some (outcome.Failed cause.Changed)) = is_upload task
tells_file_failed task (Some (outcome.Failed cause.Memory)) = true
tells_file_failed task how = false

-- ---- lanes

-- as many as are set, or all wires where there are fewer
abbrev pub lanes_of : Config → (wires : ℕ) → ℕ
lanes_of config wires = min config.lanes wires

-- ---- the setting

-- The setting is that of a run over so many wires with these warnings. `OutputFailed`: an output's count of faults
-- rose; `ListingEnded`: a page of a listing was refused, or not answered.
pub record IsSettingOf (shown : Shown) (wires : ℕ) (warnings : List Warning)
    (OutputFailed ListingEnded : Type 0) : Type 0 where
  -- memory ran out for the tasks with that cause and no others, and beside them only where the status says so
  pub memory : (n : ℕ) → shown.setting.wanted_memory (Some n) ≡ is_memory (cause_of (slice_get shown.outcomes n))
  pub planning_memory : shown.setting.wanted_memory None ≡ true → shown.status ≡ 70
  pub warning_memory : shown.excused.wanted_memory ≡ true → shown.status ≡ 70
  pub lanes : shown.setting.lanes ≡ lanes_of shown.setting.config wires
  -- what is excused has a warning
  pub left : shown.excused.left ≡ filter_map left_by warnings
  pub untimed : shown.excused.untimed ≡ filter_map untimed_by warnings
  pub files : (n : ℕ) → shown.setting.file_failed n
      ≡ tells_file_failed (slice_get shown.setting.tasks n) (slice_get shown.outcomes n)
  -- the run was cancelled only for such a reason, and a task only where the run was
  pub cancelled : IsSome shown.setting.cancelled_at → (why : Reason)
      × MayCancel shown.status OutputFailed ListingEnded why
  pub cancels : (n : ℕ) (why : Reason) → cause_of (slice_get shown.outcomes n) ≡ Some (cause.Cancelled why)
      → IsSome shown.setting.cancelled_at × MayCancel shown.status OutputFailed ListingEnded why
  -- a dry run shows each task and does none
  pub dry : (n : ℕ) (how : Outcome) → slice_get shown.outcomes n ≡ Some how → is_dry how ≡ shown.setting.dryrun

-- ---- the setting that a run claims

-- what a run was given: its settings and limits, how many wires, whether it is a dry run, its tasks, and the files
pub record RunStart : Type 0 where
  pub config : Config
  pub limits : Limits
  pub wires : ℕ
  pub dryrun : Bool
  pub tasks : List Task
  pub files : FileStore

-- what it came to, with what each wire's log and notes gained, and the files at its end
pub record RunEnd : Type 0 where
  pub status : ℕ
  pub outcomes : List Outcome
  pub warnings : List Warning
  pub journal : List Event
  pub logs : ℕ → List Talk
  pub notes : ℕ → List Note
  pub files : FileStore
  -- the calls that changed files, in order, as the files tell them
  pub file_calls : List Call
  -- the number of the planning job whose page was refused by its content, if one was
  pub refused_page : Option ℕ

-- for a task by its cause, and beside tasks by the status
abbrev pub wanted_by : RunEnd → Option ℕ → Bool
wanted_by came None = came.status == 70
wanted_by came (Some n) = is_memory (cause_of (slice_get came.outcomes n))

-- `cancelled_at`: how many events of the journal stood before the run was cancelled, if it was
abbrev pub setting_by : RunStart → RunEnd → (cancelled_at : Option ℕ) → Setting
setting_by start came cancelled_at = record {
  config = start.config;
  limits = start.limits;
  lanes = lanes_of start.config start.wires;
  tasks = start.tasks;
  dryrun = start.dryrun;
  held = start.files.held;
  others = start.files.others;
  file_failed = λ n. tells_file_failed (slice_get start.tasks n) (slice_get came.outcomes n);
  cancelled_at = cancelled_at;
  wanted_memory = wanted_by came;
}

-- what the run shows of itself
abbrev pub shown_by : RunStart → RunEnd → (cancelled_at : Option ℕ) → Shown
shown_by start came cancelled_at = record {
  setting = setting_by start came cancelled_at;
  status = came.status;
  outcomes = came.outcomes;
  journal = came.journal;
  logs = came.logs;
  notes = came.notes;
  held_after = came.files.held;
  excused = record {
    left = filter_map left_by came.warnings;
    untimed = filter_map untimed_by came.warnings;
    wanted_memory = came.status == 70;
  };
  file_calls = came.file_calls;
  refused_page = came.refused_page;
}
