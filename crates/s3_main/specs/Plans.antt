-- The plan of a run, and what became of its task.
use Rattle.std.specs.Prelude.{◌≡◌, ℕ, List, [], ◌∷◌, Option, IfSome}
use Rattle.s3_model.specs.declared.places.Endpoint.{Endpoint}
use Rattle.s3_model.specs.declared.settings.Keys.{Keys}
use Rattle.s3_model.specs.declared.settings.Limits.{Limits}
use Rattle.s3_model.specs.declared.settings.Settings.{Settings}
use Rattle.s3_model.specs.declared.tasks.Task.{Task}
use Rattle.s3_model.specs.declared.tasks.Warning.{Warning}
use Rattle.s3_model.specs.declared.tasks.Warning.TheVariants as warning
use Rattle.s3_model.specs.Talks.{Talk, Note}
use Rattle.s3_outside.specs.Files.{SeenFiles, shape_at}
use Rattle.s3_outside.specs.declared.files.Shape.{Shape}
use Rattle.s3_words.specs.declared.commands.Command.{Command}
use Rattle.upload_plans.specs.Commands.{source_path}
use Rattle.upload_plans.specs.Plans.{fate_of}
use Rattle.upload_plans.specs.declared.plan.Fate.{Fate}
use Rattle.upload_plans.specs.declared.plan.Fate.TheVariants as fate
use Rattle.run_report.specs.declared.run.Run.{Run}
use Rattle.run_report.specs.Taskless.{MayEnd}
use Rattle.run_task.specs.Uploaded.{HasOneOutcome, HasUploaded}

-- ---- the plan

-- What copying the command's file comes to, by what stands at its path.
pub record IsFate (command : Command) (settings : Settings) (limits : Limits) (files : Option SeenFiles)
    (comes : Fate) : Type 0 where
  pub stands : Shape
  pub seen : IfSome files (λ seen. shape_at seen.store (source_path command) ≡ stands)
  pub is : comes ≡ fate_of command settings.config.threshold limits.max_object stands

abbrev pub tasks_of : Fate → List Task
tasks_of (fate.Upload task) = task ∷ []
tasks_of comes = []

-- the warnings of the plan
abbrev pub skips_of : Fate → List Warning
skips_of (fate.Skipped place why) = warning.Skipped place why ∷ []
skips_of comes = []

-- and all warnings of the run
abbrev pub warnings_of : Fate → List Warning
warnings_of (fate.NotAFile path) = warning.NotAFile path ∷ []
warnings_of comes = skips_of comes

-- the run goes on with it
abbrev pub IsPlan : Fate → Type 0
IsPlan fate.NotYet = ⊥
IsPlan (fate.Refused fault) = ⊥
IsPlan comes = Unit {0}

pub record HasPlan (comes : Fate) (run : Run) : Type 0 where
  pub ends : MayEnd run.fatal
  pub plan : IsPlan comes
  pub tasks : run.plan.tasks.items ≡ tasks_of comes
  pub skips : run.plan.warnings.items ≡ skips_of comes
  pub warnings : run.warnings.items ≡ warnings_of comes

-- ---- what became of it

-- no task: no outcome, no job, and nothing sent
pub record IsIdle (run : Run) (talks : List Talk) (notes : List Note) : Type 0 where
  pub no_outcome : run.outcomes.items ≡ []
  pub no_job : run.journal.items ≡ []
  pub no_talk : talks ≡ []
  pub no_note : notes ≡ []

abbrev pub Works : Fate → Endpoint → Keys → (attempts : ℕ) → Option SeenFiles → (faults_before faults_after : ℕ)
    → Run → List Talk → List Note → Type 0
Works (fate.Upload task) endpoint keys attempts now before after run talks notes =
    HasUploaded endpoint keys attempts task now before after run talks notes
Works comes endpoint keys attempts now before after run talks notes = IsIdle run talks notes

-- whatever can be seen: the jobs that the outcome wants
abbrev pub Wants : Fate → (faults_before faults_after : ℕ) → Run → Type 0
Wants (fate.Upload task) before after run = HasOneOutcome before after run
Wants comes before after run = (run.outcomes.items ≡ []) × (run.journal.items ≡ [])
