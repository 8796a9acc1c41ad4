-- What became of the one task of a run.
use Rattle.std.specs.Prelude.{◌≡◌, ◌⊎◌, ℕ, List, [], ◌∷◌, Option, None}
use Rattle.s3_model.specs.declared.outcomes.Outcome.{Outcome}
use Rattle.s3_model.specs.declared.places.Endpoint.{Endpoint}
use Rattle.s3_model.specs.declared.settings.Keys.{Keys}
use Rattle.s3_model.specs.declared.tasks.Task.{Task}
use Rattle.s3_model.specs.Talks.{Talk, Note}
use Rattle.s3_outside.specs.Files.{SeenFiles}
use Rattle.small_uploads.specs.Uploading.{IsPutTask, Uploads, put_ask}
use Rattle.s3_model.specs.Places.{IsFile, path_at}
use Rattle.upload_promise.specs.Uploads.{WantsJournal}
use Rattle.run_report.specs.declared.run.Run.{Run}
use Rattle.run_report.specs.Taskless.{EndsForMemory}

-- from a local file to an object
pub record IsUpload (task : Task) : Type 0 where
  pub source : IsFile task.source
  pub put : IsPutTask task

abbrev pub path_of : Task → List ℕ
path_of task = path_at task.source

-- the task's outcome, and what the wire gained for it
abbrev pub HasUploaded : Endpoint → Keys → (attempts : ℕ) → Task → Option SeenFiles
    → (faults_before faults_after : ℕ) → Run → List Talk → List Note → Type 0
HasUploaded endpoint keys attempts task now before after run talks notes =
    (how : Outcome) × (run.outcomes.items ≡ how ∷ [])
    × Uploads endpoint keys attempts (put_ask task) now (path_of task) task.size before after run.journal.items how
    talks notes

-- whatever can be seen: one outcome, with the jobs that it wants
abbrev pub HasOneOutcome : (faults_before faults_after : ℕ) → Run → Type 0
HasOneOutcome before after run = (how : Outcome) × (run.outcomes.items ≡ how ∷ [])
    × WantsJournal before after how run.journal.items

-- ---- how far the run went

-- memory ran out before the task, and nothing was sent
pub record IsStopped (run : Run) (talks : List Talk) (notes : List Note) : Type 0 where
  pub stopped : EndsForMemory run
  pub no_talk : talks ≡ []
  pub no_note : notes ≡ []

-- the run has the one task, and no early end
pub record HasTask (task : Task) (run : Run) : Type 0 where
  pub fatal : run.fatal ≡ None
  pub one_task : run.plan.tasks.items ≡ task ∷ []
  pub no_skip : run.plan.warnings.items ≡ []
  pub no_warning : run.warnings.items ≡ []

abbrev pub MayUpload : Endpoint → Keys → (attempts : ℕ) → Task → Option SeenFiles
    → (faults_before faults_after : ℕ) → Run → List Talk → List Note → Type 0
MayUpload endpoint keys attempts task now before after run talks notes =
    IsStopped run talks notes
    ⊎ (HasTask task run × HasUploaded endpoint keys attempts task now before after run talks notes)

abbrev pub MayWant : Task → (faults_before faults_after : ℕ) → Run → Type 0
MayWant task before after run = EndsForMemory run ⊎ (HasTask task run × HasOneOutcome before after run)
