-- Moved objects: the source goes only once the destination is new.
use Rattle.std.specs.Prelude.{◌≡◌, ◌⊎◌, ℕ, List, None, Contains}
use Rattle.s3_model.specs.declared.requests.Ask.{Ask}
use Rattle.s3_model.specs.declared.answers.Class.{Class}
use Rattle.s3_model.specs.declared.outcomes.JobId.{JobId}
use Rattle.s3_model.specs.declared.settings.Limits.{Limits}
use Rattle.s3_model.specs.Talks.{Talk}
use Rattle.s3_service.specs.ServiceState.{Object, object_at}
use Rattle.s3_service.specs.Serves.{Writes}
use Rattle.job_terms.specs.Dispatches.{Dispatched}
use Rattle.run_promise.specs.Traces.{Step, External, state_after, events_of}
use Rattle.run_promise.specs.Schedule.{IsBefore}
use Rattle.run_promise.specs.Endings.{IsDeleted}
use Rattle.world_laws.specs.Premises.{BeginsWith, HasBegun, HasTrace, IsPlace}
use Rattle.run_promise.specs.Runs.{Run, moments, HasEndedBy, IsFitting}
use Rattle.world_laws.specs.Premises.{AreGiven, HasSuccess}
use Rattle.world_laws.specs.Destinations.{AllThatChange, Making, Requests}
use Rattle.world_laws.specs.SmallTransfers.{AsksCopy, AsksDelete, AreAll, IsCopied}
use Rattle.world_laws.specs.Multipart.{AreCopiedParts, IsCopiedInParts}

-- the job is given only after that dispatch has come
abbrev pub IsGivenAfter : Dispatched → JobId → List Dispatched → Type 0
IsGivenAfter c job dispatched =
    (d : Dispatched) → Contains dispatched d → d.dispatch.job ≡ job → IsBefore c.dispatch.came_at d.dispatch.given_at

-- somebody else wrote the object
abbrev pub IsWritten : List Step → List ℕ → List ℕ → Type 0
IsWritten trace bucket key = (object : Object) × Contains (events_of trace) (External (Writes bucket key object))

-- `Shows ask limit talk class bytes`: the talk has that class for the ask, and its answer that body
module _ (Shows : Ask → ℕ → Talk → Class → List ℕ → Type 0) where
  -- Where a job is given only after a success for the object, the object is new from the time that a request of this
  -- job begins.
  abbrev pub IsNewOnceBegun : List ℕ → List ℕ → Requests → Making → Type 0
  IsNewOnceBegun bucket key AreOurs IsNew = (limits : Limits) (run : Run) (part : List Step)
      → IsFitting Shows limits run (IsPlace bucket key) → AreOurs run.journal run.dispatched
      → AreGiven run.journal run.dispatched
      → (success : HasSuccess Shows run.journal run.dispatched bucket key) (job : JobId)
      → IsGivenAfter success.request job run.dispatched → BeginsWith run part → HasBegun part job
      → IsNew (moments run) (state_after run.start part)

  abbrev pub CopyComesFirst : Type 0
  CopyComesFirst = (bucket key from_bucket from_key etag : List ℕ)
      → IsNewOnceBegun bucket key (AreAll bucket key (AsksCopy bucket key from_bucket from_key etag))
      (IsCopied bucket key from_bucket from_key etag)

  abbrev pub CopiedPartsComeFirst : Type 0
  CopiedPartsComeFirst = (bucket key from_bucket from_key etag : List ℕ) (ranges : ℕ → ℕ × ℕ) (count : ℕ)
      → IsNewOnceBegun bucket key (AreCopiedParts Shows bucket key from_bucket from_key etag ranges count)
      (IsCopiedInParts bucket key from_bucket from_key etag ranges count)

  -- After its Delete came with success the source is absent, at the end and at every later moment, or somebody else
  -- wrote it.
  abbrev pub SourceIsGone : Type 0
  SourceIsGone = (limits : Limits) (run : Run) (part : List Step) (bucket key : List ℕ) → HasTrace Shows limits run
      → AllThatChange bucket key (AsksDelete bucket key) run.dispatched → HasEndedBy run part
      → HasSuccess Shows run.journal run.dispatched bucket key
      → IsDeleted run.trace bucket key
      × ((object_at (state_after run.start part) bucket key ≡ None) ⊎ IsWritten run.trace bucket key)
