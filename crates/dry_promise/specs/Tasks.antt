-- The tasks of a dry run that asks nothing of a service.
use Rattle.std.specs.Prelude.{◌≡◌, ℕ, false, List, Some, slice_get}
use Rattle.s3_model.specs.declared.tasks.Kind.{Kind}
use Rattle.s3_model.specs.declared.tasks.Kind.TheVariants as kind
use Rattle.s3_model.specs.declared.tasks.Task.{Task}
use Rattle.sync_plan.specs.Fit.{IsFit}

-- a file becomes an object, or an object is removed
abbrev pub IsUploadOrRemoval : Kind → Type 0
IsUploadOrRemoval kind.Upload = Unit {0}
IsUploadOrRemoval kind.RemoveObject = Unit {0}
IsUploadOrRemoval other = ⊥

-- such tasks, which can be carried out, and which replace what is there
pub record AreUploadsOrRemovals (most : ℕ) (tasks : List Task) : Type 0 where
  pub fit : IsFit most tasks
  pub kinds : (n : ℕ) (task : Task) → slice_get tasks n ≡ Some task → IsUploadOrRemoval task.kind
  pub replace : (n : ℕ) (task : Task) → slice_get tasks n ≡ Some task → task.fresh ≡ false
