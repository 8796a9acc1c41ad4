-- What a run's requests leave at one destination: the forms of the laws on it.
use Rattle.std.specs.Prelude.{◌⊎◌, ℕ, List, Contains, filter_map}
use Rattle.s3_model.specs.declared.requests.Ask.{Ask}
use Rattle.s3_model.specs.declared.answers.Class.{Class}
use Rattle.s3_model.specs.declared.outcomes.Event.{Event}
use Rattle.s3_model.specs.declared.settings.Limits.{Limits}
use Rattle.s3_model.specs.Talks.{Talk}
use Rattle.s3_service.specs.ServiceState.{State}
use Rattle.s3_service.specs.Serves.{MayChange}
use Rattle.job_terms.specs.Dispatches.{Dispatched}
use Rattle.run_promise.specs.Traces.{Step, state_after, events_of, event_of}
use Rattle.world_laws.specs.Premises.{BeginsWith, IsPlace, HasSuccess}
use Rattle.run_promise.specs.Truthful.{IsOldAfter}
use Rattle.run_promise.specs.Runs.{Run, HasEndedBy, moments, IsFitting}
use Rattle.world_laws.specs.Premises.{AllRefused}

-- each dispatched request that may change the object is such a one
abbrev pub AllThatChange : List ℕ → List ℕ → (Dispatched → Type 0) → List Dispatched → Type 0
AllThatChange bucket key IsSuch dispatched =
    (c : Dispatched) → Contains dispatched c → MayChange c.ask bucket key → IsSuch c

-- which requests were dispatched for an object
abbrev pub Requests : Type 1
Requests = List Event → List Dispatched → Type 0

-- that they made it new, by the moments of the trace and the state at one of them
abbrev pub Making : Type 1
Making = List State → State → Type 0

-- `Shows ask limit talk class bytes`: the talk has that class for the ask, and its answer that body
module _ (Shows : Ask → ℕ → Talk → Class → List ℕ → Type 0) where
  -- Once a success has come the object is new, then and at every later moment.
  abbrev pub IsNewOnceCome : List ℕ → List ℕ → Requests → Making → Type 0
  IsNewOnceCome bucket key AreOurs IsNew = (limits : Limits) (run : Run) (part : List Step)
      → IsFitting Shows limits run (IsPlace bucket key) → AreOurs run.journal run.dispatched → BeginsWith run part
      → HasSuccess Shows (filter_map event_of (events_of part)) run.dispatched bucket key
      → IsNew (moments run) (state_after run.start part)

  -- So after a success it is new at the end, and at every later moment.
  abbrev pub IsNewAfterSuccess : List ℕ → List ℕ → Requests → Making → Type 0
  IsNewAfterSuccess bucket key AreOurs IsNew = (limits : Limits) (run : Run) (part : List Step)
      → IsFitting Shows limits run (IsPlace bucket key) → AreOurs run.journal run.dispatched → HasEndedBy run part
      → HasSuccess Shows run.journal run.dispatched bucket key → IsNew (moments run) (state_after run.start part)

  -- Whatever was answered, it is as before or new, at every moment.
  abbrev pub IsOldOrNew : List ℕ → List ℕ → Requests → Making → Type 0
  IsOldOrNew bucket key AreOurs IsNew = (limits : Limits) (run : Run) (part : List Step)
      → IsFitting Shows limits run (IsPlace bucket key) → AreOurs run.journal run.dispatched → BeginsWith run part
      → IsOldAfter run part bucket key ⊎ IsNew (moments run) (state_after run.start part)

  -- After refusals alone it is as before, at every moment.
  abbrev pub IsOldAfterRefusals : Type 0
  IsOldAfterRefusals = (limits : Limits) (run : Run) (part : List Step) (bucket key : List ℕ)
      → IsFitting Shows limits run (IsPlace bucket key) → AllThatChange bucket key (AllRefused Shows) run.dispatched
      → BeginsWith run part → IsOldAfter run part bucket key
