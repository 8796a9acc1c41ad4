-- What the calls on files show of a task's outcome.
use Rattle.std.specs.Prelude.{◌≡◌, ◌⊎◌, ℕ, false, List, Some, Err, Contains}
use Rattle.s3_model.specs.declared.outcomes.Cause.{Cause}
use Rattle.s3_model.specs.declared.outcomes.Cause.TheVariants as cause
use Rattle.s3_model.specs.declared.outcomes.Outcome.{Outcome}
use Rattle.s3_model.specs.declared.outcomes.Outcome.TheVariants as outcome
use Rattle.s3_model.specs.declared.places.Place.TheVariants as place
use Rattle.s3_model.specs.declared.tasks.Kind.{Kind}
use Rattle.s3_model.specs.declared.tasks.Kind.TheVariants as kind
use Rattle.s3_model.specs.declared.tasks.Task.{Task}
use Rattle.local_files.specs.Calls.{Call, MakeTemp, Remove, Rename, WriteAt}
use Rattle.run_promise.specs.FileCalls.{IsRemoved, IsRenamed, TaskCall}

-- a task that calls on files decide: a download of an object, or the removal of a file, which moves nothing
pub record IsByFiles (task : Task) : Type 0 where
  pub path : List ℕ
  pub is_dest : task.dest ≡ place.File path
  pub decided : (task.kind ≡ kind.Download) ⊎ (task.kind ≡ kind.RemoveFile)
  pub from : task.kind ≡ kind.Download → (bucket : List ℕ) × (key : List ℕ)
      × (task.source ≡ Some (place.Object bucket key))
  pub keeps : task.kind ≡ kind.RemoveFile → task.moves ≡ false

-- ---- what calls show

-- a call that carries out its task failed: any but a drop and a time
abbrev pub IsFailedAct : Call → Type 0
IsFailedAct (MakeTemp dest (Err fault)) = Unit {0}
IsFailedAct (WriteAt temp at bytes false) = Unit {0}
IsFailedAct (Rename temp dest (Some fault)) = Unit {0}
IsFailedAct (Remove path false) = Unit {0}
IsFailedAct call = ⊥

abbrev pub HasFailedAct : List TaskCall → ℕ → Type 0
HasFailedAct calls n = (c : TaskCall) × Contains calls c × (c.task ≡ n) × IsFailedAct c.step.call

-- the destination was replaced, or removed
abbrev pub IsDestChanged : Kind → List TaskCall → ℕ → Type 0
IsDestChanged kind.Download calls n = IsRenamed calls n
IsDestChanged kind.RemoveFile calls n = IsRemoved calls n
IsDestChanged other calls n = ⊥

-- A cause that no call shows stands only where no such call failed. Memory wins over every other cause.
abbrev pub IsCauseBeside : Cause → (failed : Type 0) → Type 0
IsCauseBeside (cause.Files of_call) failed = Unit {0}
IsCauseBeside (cause.Blocked length) failed = Unit {0}
IsCauseBeside cause.Memory failed = Unit {0}
IsCauseBeside why failed = ¬ failed

abbrev pub IsOutcomeBeside : Outcome → (failed : Type 0) → Type 0
IsOutcomeBeside (outcome.Copied why) failed = IsCauseBeside why failed
IsOutcomeBeside (outcome.Failed why) failed = IsCauseBeside why failed
IsOutcomeBeside how failed = Unit {0}

-- Done and copied are tasks whose destination was replaced or removed, and no others.
abbrev pub IsShownByDest : Outcome → (changed : Type 0) → Type 0
IsShownByDest outcome.Done changed = changed
IsShownByDest (outcome.Copied why) changed = changed
IsShownByDest how changed = ¬ changed

-- what the calls show of a task's outcome, and of the task of a moved file
abbrev pub IsShownByCalls : Outcome → (changed failed : Type 0) → Type 0
IsShownByCalls how changed failed = IsShownByDest how changed × IsOutcomeBeside how failed

-- the file of a move goes where the task is done, and else stays
abbrev pub IsFileLeft : Outcome → (gone stays : Type 0) → Type 0
IsFileLeft outcome.Done gone stays = gone
IsFileLeft how gone stays = stays

abbrev pub IsMoveShown : Outcome → (removed failed : Type 0) → Type 0
IsMoveShown how removed failed = IsFileLeft how removed (¬ removed) × IsOutcomeBeside how failed
