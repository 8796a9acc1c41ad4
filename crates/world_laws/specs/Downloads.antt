-- What a Get that came with success tells of the object: what it had under the asked ETag at some moment.
use Rattle.std.specs.Prelude.{◌≡◌, ◌≤◌, ℕ, List, Option, Some, None, Contains}
use Rattle.s3_model.specs.declared.requests.Ask.{Ask}
use Rattle.s3_model.specs.declared.requests.Ask.TheVariants as ask
use Rattle.s3_model.specs.declared.answers.Reply.{Reply}
use Rattle.s3_model.specs.declared.answers.Reply.TheVariants as reply
use Rattle.s3_model.specs.declared.answers.Class.{Class}
use Rattle.s3_model.specs.declared.outcomes.Event.{Event}
use Rattle.s3_model.specs.declared.settings.Limits.{Limits}
use Rattle.s3_model.specs.Talks.{Talk}
use Rattle.job_terms.specs.Dispatches.{Dispatched}
use Rattle.s3_model.specs.Parts.{piece_count}
use Rattle.run_promise.specs.Schedule.{asked_range}
use Rattle.world_laws.specs.Premises.{IsNoPlace, HasCome, HasSucceeded}
use Rattle.run_promise.specs.Runs.{Run, moments, IsFitting}
use Rattle.world_laws.specs.SmallTransfers.{HadContent, HasSize}
use Rattle.world_laws.specs.Multipart.{joined}

-- the reply has the status of a part of the object
abbrev pub IsPartial : Reply → Type 0
IsPartial (reply.Got status range length) = status ≡ 206
IsPartial answered = ⊥

-- `Shows ask limit talk class bytes`: the talk has that class for the ask, and its answer that body
module _ (Shows : Ask → ℕ → Talk → Class → List ℕ → Type 0) where
  -- a Get of that range came with success, and its body is these bytes
  pub record IsGot (journal : List Event) (dispatched : List Dispatched) (bucket key etag : List ℕ)
      (range : Option (ℕ × ℕ)) (bytes : List ℕ) : Type 0 where
    pub get : Dispatched
    pub known : Contains dispatched get
    pub is_get : get.ask ≡ ask.Get bucket key etag range
    pub come : HasCome journal get
    pub succeeded : HasSucceeded Shows get
    pub is_body : succeeded.bytes ≡ bytes

  -- A Get of the whole tells what the object had.
  abbrev pub GetTells : Type 0
  GetTells = (limits : Limits) (run : Run) (bucket key etag bytes : List ℕ) → IsFitting Shows limits run IsNoPlace
      → IsGot run.journal run.dispatched bucket key etag None bytes → HadContent (moments run) bucket key etag bytes

  -- each range of an object of that size was asked for, and answered as a part
  abbrev pub AreGotInParts : List Event → List Dispatched → (bucket key etag : List ℕ) → (size piece : ℕ)
      → (bodies : ℕ → List ℕ) → Type 0
  AreGotInParts journal dispatched bucket key etag size piece bodies = (k : ℕ) → 1 ≤ k → k ≤ piece_count size piece
      → (got : IsGot journal dispatched bucket key etag (Some (asked_range size piece k)) (bodies k))
      × IsPartial got.succeeded.reply

  -- The ranges of an object of a known size make what it had, in order.
  abbrev pub RangesTell : Type 0
  RangesTell = (limits : Limits) (run : Run) (bucket key etag : List ℕ) (size piece : ℕ) (bodies : ℕ → List ℕ)
      → IsFitting Shows limits run IsNoPlace → 1 ≤ size → 1 ≤ piece → HasSize (moments run) bucket key etag size
      → AreGotInParts run.journal run.dispatched bucket key etag size piece bodies
      → HadContent (moments run) bucket key etag (joined bodies 1 (piece_count size piece))
