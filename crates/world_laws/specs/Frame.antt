-- What no request of a run may change, and nobody else writes, stays as it was.
use Rattle.std.specs.Prelude.{◌⊎◌, ℕ, List, Contains}
use Rattle.s3_model.specs.declared.requests.Ask.{Ask}
use Rattle.s3_model.specs.declared.answers.Class.{Class}
use Rattle.s3_model.specs.declared.settings.Limits.{Limits}
use Rattle.s3_model.specs.Talks.{Talk}
use Rattle.s3_service.specs.Serves.{MayChange}
use Rattle.job_terms.specs.Dispatches.{Dispatched}
use Rattle.run_promise.specs.Traces.{Step}
use Rattle.run_promise.specs.Truthful.{IsExternal, IsOldAfter}
use Rattle.world_laws.specs.Premises.{BeginsWith, HasTrace}
use Rattle.run_promise.specs.Runs.{Run}

-- some dispatched request may change the object
abbrev pub IsAskedOf : List Dispatched → List ℕ → List ℕ → Type 0
IsAskedOf dispatched bucket key = (c : Dispatched) × Contains dispatched c × MayChange c.ask bucket key

-- `Shows ask limit talk class bytes`: the talk has that class for the ask, and its answer that body
module _ (Shows : Ask → ℕ → Talk → Class → List ℕ → Type 0) where
  -- Some request may change the object, somebody else wrote it, or it is as it was, after each beginning of a trace.
  abbrev pub FrameHolds : Type 0
  FrameHolds = (limits : Limits) (run : Run) (part : List Step) (bucket key : List ℕ) → HasTrace Shows limits run
      → BeginsWith run part
      → IsAskedOf run.dispatched bucket key ⊎ IsExternal run.trace bucket key ⊎ IsOldAfter run part bucket key
