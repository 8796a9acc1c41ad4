-- Runs that meet the premises of the laws on files.
use Rattle.std.specs.Prelude.{◌≡◌, ℕ, true, false, List, [], ◌∷◌, Option, Some, None, codes, filter_map, slice_get}
use Rattle.std.specs.Prelude.{IsSome}
use Rattle.s3_model.specs.declared.outcomes.Cause.TheVariants as cause
use Rattle.s3_model.specs.declared.outcomes.Event.{Event}
use Rattle.s3_model.specs.declared.outcomes.FileCall.TheVariants as call
use Rattle.s3_model.specs.declared.outcomes.Outcome.{Outcome}
use Rattle.s3_model.specs.declared.outcomes.Outcome.TheVariants as outcome
use Rattle.s3_model.specs.declared.places.Place.TheVariants as place
use Rattle.s3_model.specs.declared.requests.Op.TheVariants as op
use Rattle.s3_model.specs.declared.tasks.Kind.TheVariants as kind
use Rattle.s3_model.specs.declared.tasks.Task.{Task}
use Rattle.s3_service.specs.ServiceState.{State}
use Rattle.run_promise.specs.Endings.{IsLeftover}
use Rattle.run_promise.specs.Outcomes.{HasOutcome}
use Rattle.run_promise.specs.Traces.{Step, states}
use Rattle.run_promise.specs.Runs.{HasJournal}
use Rattle.local_files.specs.Calls.{Call, WriteAt}
use Rattle.world_laws.specs.Rounds.{Told, ToldStatus}
use Rattle.world_laws.specs.Tasks.{HasSourceObject, IsScheduled, IsTraceOf, MayBeNew}
use Rattle.run_promise.specs.FileOutcomes.{HasFailedAct, IsByFiles, IsDestChanged, IsShownByCalls}
use Rattle.file_laws.specs.FileEnds.{HasFailedCall}
use Rattle.run_promise.specs.FileCalls.{AreCalls, FileRun}
use Rattle.file_laws.specs.FileLaws.{in_the_end, with_trace}
use Rattle.run_promise.specs.FileCalls.{IsDropped, IsMoveOf, IsRemoved, TaskCall}

-- an object of two bytes, under an ETag that spells them, to a file
abbrev pub two_bytes : (bucket key : List ℕ) (a b : ℕ) → Task
two_bytes bucket key a b = record {
  kind = kind.Download;
  moves = false;
  source = Some (place.Object bucket key);
  dest = place.File (codes "k");
  size = 2;
  etag = a ∷ b ∷ [];
  micros = 0;
  content = None;
  fresh = false;
}

abbrev pub file_removal : (path : List ℕ) → Task
file_removal path = record {
  kind = kind.RemoveFile;
  moves = false;
  source = None;
  dest = place.File path;
  size = 0;
  etag = [];
  micros = 0;
  content = None;
  fresh = false;
}

-- an empty file to an object, which is moved
abbrev pub moved_upload : (bucket key path : List ℕ) → Task
moved_upload bucket key path = record {
  kind = kind.Upload;
  moves = true;
  source = Some (place.File path);
  dest = place.Object bucket key;
  size = 0;
  etag = [];
  micros = 0;
  content = None;
  fresh = false;
}

-- the offsets at which calls wrote, in order
abbrev pub offset_written : Call → Option ℕ
offset_written (WriteAt temp at bytes fine) = Some at
offset_written call = None

abbrev pub offsets_written : List TaskCall → List ℕ
offsets_written calls = filter_map (λ (c : TaskCall). offset_written c.step.call) calls

-- a run with a task that meets all that the laws ask, with that outcome
pub record IsFileTaskMet (task : Task) (how : Outcome) : Type 0 where
  pub run : FileRun
  pub start : State
  pub trace : List Step
  pub journal : List Event
  pub is_task : slice_get run.setting.tasks 0 ≡ Some task
  pub are_calls : AreCalls Told run
  pub scheduled : IsScheduled Told run.setting journal run.dispatched run.coming
  pub traced : IsTraceOf Told run.setting (with_trace run journal start trace)
  pub whole : HasJournal journal trace trace
  pub by_files : IsByFiles task
  pub sourced : MayBeNew how → task.kind ≡ kind.Download → HasSourceObject (states start trace) task
  pub caused : HasOutcome Told ToldStatus (HasFailedCall run.calls) run.setting run.dispatched run.coming 0 task how
  pub shown : IsShownByCalls how (IsDestChanged task.kind run.calls 0) (HasFailedAct run.calls 0)

-- two ranges that came and were written in reverse order
abbrev pub DownloadIsMet : Type 0
DownloadIsMet = (bucket key : List ℕ) (a b : ℕ) → (met : IsFileTaskMet (two_bytes bucket key a b) outcome.Done)
    × (offsets_written met.run.calls ≡ 1 ∷ 0 ∷ [])

-- the second Get was refused, and the temporary file was dropped
abbrev pub RefusedGetIsMet : Type 0
RefusedGetIsMet = (bucket key : List ℕ) (a b : ℕ)
    → (met : IsFileTaskMet (two_bytes bucket key a b) (outcome.Failed (cause.Service op.Get (codes "AccessDenied") [])))
    × (offsets_written met.run.calls ≡ 0 ∷ []) × IsDropped met.run.calls 0

-- so it was, but it could not be dropped, and stays with a warning
abbrev pub LeftFileIsMet : Type 0
LeftFileIsMet = (bucket key : List ℕ) (a b : ℕ)
    → (met : IsFileTaskMet (two_bytes bucket key a b) (outcome.Failed (cause.Service op.Get (codes "AccessDenied") [])))
    × ((path : List ℕ) × IsLeftover met.run.excused met.run.setting.held path × IsSome (in_the_end met.run path))

-- a file that was removed, and one that could not be
abbrev pub RemovalIsMet : Type 0
RemovalIsMet = (path : List ℕ) → IsFileTaskMet (file_removal path) outcome.Done

abbrev pub FailedRemovalIsMet : Type 0
FailedRemovalIsMet = (path : List ℕ) → IsFileTaskMet (file_removal path) (outcome.Failed (cause.Files call.Remove))

-- a run that removed the file that it moves
pub record IsMovedFileMet (task : Task) (path : List ℕ) : Type 0 where
  pub run : FileRun
  pub is_move : IsMoveOf run.setting.tasks 0 task path
  pub are_calls : AreCalls Told run
  pub removed : IsRemoved run.calls 0

abbrev pub MovedFileIsMet : Type 0
MovedFileIsMet = (bucket key path : List ℕ) → IsMovedFileMet (moved_upload bucket key path) path
