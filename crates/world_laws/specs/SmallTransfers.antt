-- Destinations that a run makes new by one request: a small upload, a small copy, a removal.
use Rattle.std.specs.Prelude.{◌≡◌, ℕ, Bool, List, Option, None, Contains, length}
use Rattle.s3_model.specs.declared.requests.Ask.{Ask}
use Rattle.s3_model.specs.declared.requests.Ask.TheVariants as ask
use Rattle.s3_model.specs.declared.answers.Class.{Class}
use Rattle.s3_model.specs.declared.outcomes.Event.{Event}
use Rattle.s3_model.specs.Talks.{Talk}
use Rattle.s3_service.specs.ServiceState.{State, Object, object_at, HasBytes}
use Rattle.s3_service.specs.Serves.{IsThere}
use Rattle.job_terms.specs.Dispatches.{Dispatched}
use Rattle.world_laws.specs.Destinations.{AllThatChange, IsNewAfterSuccess, IsOldOrNew}

-- ---- which requests

-- the request puts this body there
abbrev pub AsksPut : List ℕ → List ℕ → List ℕ → Dispatched → Type 0
AsksPut bucket key body c = (content : Option (List ℕ)) × (fresh : Bool) × (c.ask ≡ ask.Put bucket key content fresh)
    × (c.body ≡ body)

-- it copies a source there, under an ETag
abbrev pub AsksCopy : List ℕ → List ℕ → List ℕ → List ℕ → List ℕ → Dispatched → Type 0
AsksCopy bucket key from_bucket from_key etag c = c.ask ≡ ask.Copy bucket key from_bucket from_key etag

abbrev pub AsksDelete : List ℕ → List ℕ → Dispatched → Type 0
AsksDelete bucket key c = c.ask ≡ ask.Delete bucket key

-- each request that may change the object is such a one
abbrev pub AreAll : List ℕ → List ℕ → (Dispatched → Type 0) → List Event → List Dispatched → Type 0
AreAll bucket key IsSuch journal dispatched = AllThatChange bucket key IsSuch dispatched

-- ---- how they make it

-- the bytes that an object had at some moment under that ETag
abbrev pub HadContent : List State → List ℕ → List ℕ → List ℕ → List ℕ → Type 0
HadContent moments bucket key etag bytes =
    (state : State) × (object : Object) × Contains moments state × IsThere state bucket key etag object
    × (object.bytes ≡ bytes)

-- whatever the object had under that ETag has that size
abbrev pub HasSize : List State → List ℕ → List ℕ → List ℕ → ℕ → Type 0
HasSize moments bucket key etag size = (bytes : List ℕ) → HadContent moments bucket key etag bytes → length bytes ≡ size

abbrev pub IsStored : List ℕ → List ℕ → List ℕ → List State → State → Type 0
IsStored bucket key body moments t = HasBytes t bucket key body

-- it has what the source had under the ETag
abbrev pub IsCopied : List ℕ → List ℕ → List ℕ → List ℕ → List ℕ → List State → State → Type 0
IsCopied bucket key from_bucket from_key etag moments t =
    (bytes : List ℕ) × HadContent moments from_bucket from_key etag bytes × HasBytes t bucket key bytes

abbrev pub IsRemoved : List ℕ → List ℕ → List State → State → Type 0
IsRemoved bucket key moments t = object_at t bucket key ≡ None

-- ---- the laws

-- `Shows ask limit talk class bytes`: the talk has that class for the ask, and its answer that body
module _ (Shows : Ask → ℕ → Talk → Class → List ℕ → Type 0) where
  abbrev pub UploadStores : Type 0
  UploadStores = (bucket key body : List ℕ)
      → IsNewAfterSuccess Shows bucket key (AreAll bucket key (AsksPut bucket key body)) (IsStored bucket key body)

  abbrev pub UploadIsWhole : Type 0
  UploadIsWhole = (bucket key body : List ℕ)
      → IsOldOrNew Shows bucket key (AreAll bucket key (AsksPut bucket key body)) (IsStored bucket key body)

  abbrev pub CopyStores : Type 0
  CopyStores = (bucket key from_bucket from_key etag : List ℕ)
      → IsNewAfterSuccess Shows bucket key (AreAll bucket key (AsksCopy bucket key from_bucket from_key etag))
      (IsCopied bucket key from_bucket from_key etag)

  abbrev pub CopyIsWhole : Type 0
  CopyIsWhole = (bucket key from_bucket from_key etag : List ℕ)
      → IsOldOrNew Shows bucket key (AreAll bucket key (AsksCopy bucket key from_bucket from_key etag))
      (IsCopied bucket key from_bucket from_key etag)

  abbrev pub DeleteRemoves : Type 0
  DeleteRemoves = (bucket key : List ℕ)
      → IsNewAfterSuccess Shows bucket key (AreAll bucket key (AsksDelete bucket key)) (IsRemoved bucket key)

  abbrev pub DeleteIsWhole : Type 0
  DeleteIsWhole = (bucket key : List ℕ)
      → IsOldOrNew Shows bucket key (AreAll bucket key (AsksDelete bucket key)) (IsRemoved bucket key)
