-- A small upload that moves its file: when the file is removed.
use Rattle.std.specs.Prelude.{◌≡◌, ℕ, true, false, List, [], ◌∷◌, map}
use Rattle.std.specs.FinMap.{remove}
use Rattle.s3_model.specs.declared.answers.Listed.{Listed}
use Rattle.s3_model.specs.declared.tasks.Task.{Task}
use Rattle.job_terms.specs.Dispatches.{Dispatched, dispatches}
use Rattle.local_files.specs.Calls.{Remove}
use Rattle.run_promise.specs.Endings.{Excused}
use Rattle.run_promise.specs.FileCalls.{AreFileCalls, TaskCall}
use Rattle.run_promise.specs.Schedule.{Setting}
use Rattle.promise_examples.specs.BothKinds.{call_of}
use Rattle.promise_examples.specs.Reading.{Reads}
use Rattle.promise_examples.specs.Refused as refused
use Rattle.promise_examples.specs.Refused.{path, whole_run}

abbrev pub moved : Task
moved = record refused.task { moves = true }

abbrev pub setting : Setting
setting = record refused.setting { tasks = moved ∷ [] }

abbrev pub excused : Excused
excused = record { left = []; untimed = []; wanted_memory = false }

-- the file is removed when so many events of the journal had happened
abbrev pub removes_at : ℕ → TaskCall
removes_at place = call_of 0 place (Remove path true) (remove setting.held path)

module _ (page_of : List ℕ → Listed) where
  abbrev pub KeepWith : ℕ → List Dispatched → List Dispatched → Type 0
  KeepWith place dispatched coming =
      AreFileCalls (Reads page_of) setting excused dispatched coming (removes_at place ∷ [])

  -- the jobs of the upload: its Put was given and came
  abbrev pub AreJobs : List Dispatched → Type 0
  AreJobs dispatched = map (λ (c : Dispatched). c.dispatch) dispatched ≡ dispatches whole_run.journal whole_run.logs

  pub record RemovalIsMet : Type 0 where
    pub jobs : List Dispatched
    pub are_jobs : AreJobs jobs
    pub keep : KeepWith 2 jobs jobs

  -- it is removed while the Put is out, or before it is given
  abbrev pub IsEarlyRemoval : Type 0
  IsEarlyRemoval = (dispatched coming : List Dispatched) → AreJobs dispatched
      → ¬ (KeepWith 1 dispatched coming) × ¬ (KeepWith 0 dispatched coming)

abbrev pub MovedUploadIsMet : Type 0
MovedUploadIsMet = (page_of : List ℕ → Listed) → RemovalIsMet page_of

abbrev pub EarlyRemovalIsRefused : Type 0
EarlyRemovalIsRefused = (page_of : List ℕ → Listed) → IsEarlyRemoval page_of
