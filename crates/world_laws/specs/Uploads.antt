-- Which uploads the requests of a run may change.
use Rattle.std.specs.Prelude.{◌≡◌, ◌++◌, ℕ, List, [], ◌∷◌, None, Contains}
use Rattle.std.specs.FinMap.{get}
use Rattle.s3_model.specs.declared.requests.Ask.{Ask}
use Rattle.s3_model.specs.declared.requests.Ask.TheVariants as ask
use Rattle.s3_model.specs.declared.answers.Reply.TheVariants as reply
use Rattle.s3_model.specs.declared.answers.Class.{Class}
use Rattle.s3_model.specs.declared.settings.Limits.{Limits}
use Rattle.s3_model.specs.Talks.{Talk}
use Rattle.s3_service.specs.ServiceState.{State}
use Rattle.s3_service.specs.Serves.{Replied}
use Rattle.job_terms.specs.Dispatches.{Dispatched}
use Rattle.run_promise.specs.Traces.{SentRequest, Step, Serve, IsTrace, state_after}
use Rattle.world_laws.specs.Premises.{BeginsWith, HasTrace}
use Rattle.run_promise.specs.Runs.{Run}

-- the id is neither open nor ended
pub record IsFree (t : State) (id : List ℕ) : Type 0 where
  pub not_open : get t.uploads id ≡ None
  pub not_ended : get t.ended id ≡ None

-- the request names the upload
abbrev pub NamesUpload : Ask → List ℕ → Type 0
NamesUpload (ask.Part bucket key upload number) id = upload ≡ id
NamesUpload (ask.PartCopy bucket key upload number from_bucket from_key etag range) id = upload ≡ id
NamesUpload (ask.Complete bucket key upload etags fresh) id = upload ≡ id
NamesUpload (ask.Abort bucket key upload) id = upload ≡ id
NamesUpload asked id = ⊥

-- the upload is as it was, with its parts, and so is how it ended
abbrev pub IsSameUpload : State → State → List ℕ → Type 0
IsSameUpload old new id = (get new.uploads id ≡ get old.uploads id) × (get new.ended id ≡ get old.ended id)

-- `Shows ask limit talk class bytes`: the talk has that class for the ask, and its answer that body
module _ (Shows : Ask → ℕ → Talk → Class → List ℕ → Type 0) where
  -- An upload that was begun, and that no dispatched request names, stays as it is.
  abbrev pub OtherUploadsStay : Type 0
  OtherUploadsStay = (limits : Limits) (run : Run) (front rest : List Step) (id : List ℕ) → HasTrace Shows limits run
      → ((c : Dispatched) → Contains run.dispatched c → NamesUpload c.ask id → ⊥) → BeginsWith run (front ++ rest)
      → (IsFree (state_after run.start front) id → ⊥)
      → IsSameUpload (state_after run.start front) (state_after run.start (front ++ rest)) id

-- that step answers a Create with the id
abbrev pub IsCreatedBy : Step → List ℕ → Type 0
IsCreatedBy step id =
    (sent : SentRequest) × (bytes : List ℕ) × (step.event ≡ Serve sent (Replied (reply.Created id) bytes))

-- An id is named by one Create alone.
abbrev pub IdsAreCreatedOnce : Type 0
IdsAreCreatedOnce = (limits : Limits) (start : State) (trace front front' : List Step) (step step' : Step)
    (back back' : List Step) (id : List ℕ) → IsTrace limits [] start trace
    → trace ≡ front ++ step ∷ back → trace ≡ front' ++ step' ∷ back'
    → IsCreatedBy step id → IsCreatedBy step' id → front ≡ front'
