-- What planning is told of an object, by a Head or a listing, is so at every moment of the run: its size under its
-- ETag.
use Rattle.std.specs.Prelude.{◌≡◌, ℕ, List, Some, Contains}
use Rattle.s3_model.specs.declared.requests.Ask.{Ask}
use Rattle.s3_model.specs.declared.requests.Ask.TheVariants as ask
use Rattle.s3_model.specs.declared.answers.Class.{Class}
use Rattle.s3_model.specs.declared.answers.Reply.{Reply}
use Rattle.s3_model.specs.declared.answers.Reply.TheVariants as reply
use Rattle.s3_model.specs.declared.outcomes.Event.{Event}
use Rattle.s3_model.specs.declared.places.Entry.{Entry}
use Rattle.s3_model.specs.declared.places.Place.TheVariants as place
use Rattle.s3_model.specs.declared.tasks.Task.{Task}
use Rattle.s3_model.specs.Talks.{Talk}
use Rattle.job_terms.specs.Dispatches.{Dispatched}
use Rattle.run_promise.specs.Schedule.{Setting}
use Rattle.world_laws.specs.Premises.{HasCome, HasSucceeded}
use Rattle.run_promise.specs.Fits.{IsPageJob}
use Rattle.run_promise.specs.Runs.{Run, moments}
use Rattle.world_laws.specs.SmallTransfers.{HasSize}
use Rattle.world_laws.specs.Tasks.{HasSourceObject, IsTraceOf}

-- the reply tells size and ETag of the object: that of a Head, or an entry of a page of a listing
abbrev pub TellsOf : Ask → Reply → (bucket key etag : List ℕ) → (size : ℕ) → Type 0
TellsOf (ask.Head b k) (reply.Found told under micros) bucket key etag size =
    (b ≡ bucket) × (k ≡ key) × (under ≡ etag) × (told ≡ size)
TellsOf (ask.List b prefix delimited token) (reply.Listed page) bucket key etag size =
    (entry : Entry) × Contains page.entries.items entry × (b ≡ bucket) × (entry.key ≡ key) × (entry.etag ≡ etag)
    × (entry.size ≡ size)
TellsOf asked answered bucket key etag size = ⊥

-- `Shows ask limit talk class bytes`: the talk has that class for the ask, and its answer that body
module _ (Shows : Ask → ℕ → Talk → Class → List ℕ → Type 0) where
  -- a request came with success that told the size and the ETag
  pub record IsFound (run : Run) (bucket key etag : List ℕ) (size : ℕ) : Type 0 where
    pub request : Dispatched
    pub known : Contains run.dispatched request
    pub come : HasCome run.journal request
    -- and brought no page that was refused by its content
    pub taken : ¬ (IsPageJob run.refused_page request)
    pub succeeded : HasSucceeded Shows request
    pub tells : TellsOf request.ask succeeded.reply bucket key etag size

  abbrev pub FoundHasSize : Type 0
  FoundHasSize = (s : Setting) (run : Run) → IsTraceOf Shows s run → (bucket key etag : List ℕ) (size : ℕ)
      → IsFound run bucket key etag size → HasSize (moments run) bucket key etag size

  -- So a copy that is planned from it has its source.
  abbrev pub FoundIsSource : Type 0
  FoundIsSource = (s : Setting) (run : Run) → IsTraceOf Shows s run → (task : Task) (bucket key : List ℕ)
      → task.source ≡ Some (place.Object bucket key) → IsFound run bucket key task.etag task.size
      → HasSourceObject (moments run) task
