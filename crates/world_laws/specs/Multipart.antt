-- Destinations that a run makes new by an upload in parts: parts with their bytes, or copied from a source.
use Rattle.std.specs.Prelude.{◌≡◌, ◌+◌, ◌++◌, ℕ, Bool, zero, suc, List, [], Option, Contains, length}
use Rattle.s3_model.specs.declared.requests.Ask.{Ask}
use Rattle.s3_model.specs.declared.requests.Ask.TheVariants as ask
use Rattle.s3_model.specs.declared.answers.Reply.TheVariants as reply
use Rattle.s3_model.specs.declared.answers.Class.{Class}
use Rattle.s3_model.specs.declared.outcomes.Event.{Event}
use Rattle.s3_model.specs.declared.settings.Limits.{Limits}
use Rattle.s3_model.specs.Lists.{Reserved}
use Rattle.s3_model.specs.Talks.{Talk}
use Rattle.s3_service.specs.ServiceState.{State, HasBytes}
use Rattle.s3_service.specs.Serves.{bytes_within}
use Rattle.job_terms.specs.Dispatches.{Dispatched}
use Rattle.run_promise.specs.Traces.{Step, IsTrace}
use Rattle.run_promise.specs.Truthful.{AbortsLast}
use Rattle.world_laws.specs.Premises.{HasCome, HasSucceeded}
use Rattle.world_laws.specs.Destinations.{AllThatChange, IsNewAfterSuccess, IsOldOrNew}
use Rattle.world_laws.specs.SmallTransfers.{HadContent, IsStored}

-- pieces at, at + 1 and so on, n of them
abbrev pub joined : (ℕ → List ℕ) → ℕ → ℕ → List ℕ
joined pieces at zero = []
joined pieces at (suc n) = pieces at ++ joined pieces (at + 1) n

-- it has the ranges, 1 to count, of what the source had under the ETag
abbrev pub IsCopiedInParts : List ℕ → List ℕ → List ℕ → List ℕ → List ℕ → (ℕ → ℕ × ℕ) → ℕ → List State → State → Type 0
IsCopiedInParts bucket key from_bucket from_key etag ranges count moments t =
    (bytes : List ℕ) × HadContent moments from_bucket from_key etag bytes
    × HasBytes t bucket key (joined (λ n. bytes_within (ranges n) bytes) 1 count)

-- `Shows ask limit talk class bytes`: the talk has that class for the ask, and its answer that body
module _ (Shows : Ask → ℕ → Talk → Class → List ℕ → Type 0) where
  -- a Create for the object came with success and named the id
  pub record IsCreated (bucket key : List ℕ) (journal : List Event) (dispatched : List Dispatched)
      (id : List ℕ) : Type 0 where
    pub create : Dispatched
    pub known : Contains dispatched create
    pub content : Option (List ℕ)
    pub is_create : create.ask ≡ ask.Create bucket key content
    pub has_come : HasCome journal create
    pub succeeded : HasSucceeded Shows create
    pub names : succeeded.reply ≡ reply.Created id

  -- the request completes an upload for the object that this run created, with so many parts
  pub record CompletesHere (bucket key : List ℕ) (count : ℕ) (journal : List Event) (dispatched : List Dispatched)
      (c : Dispatched) : Type 0 where
    pub id : List ℕ
    pub etags : Reserved (List ℕ)
    pub fresh : Bool
    pub is_complete : c.ask ≡ ask.Complete bucket key id etags fresh
    pub counted : length etags.items ≡ count
    pub created : IsCreated bucket key journal dispatched id

  -- what changes the object completes such an upload, and each part for the object carries its piece
  pub record AreParts (bucket key : List ℕ) (pieces : ℕ → List ℕ) (count : ℕ) (journal : List Event)
      (dispatched : List Dispatched) : Type 0 where
    pub completes : AllThatChange bucket key (CompletesHere bucket key count journal dispatched) dispatched
    pub parts : (c : Dispatched) (id : List ℕ) (number : ℕ) → Contains dispatched c
        → c.ask ≡ ask.Part bucket key id number
        → c.body ≡ pieces number
    pub no_copies : (c : Dispatched) (id : List ℕ) (number : ℕ) (b k under : List ℕ) (range : ℕ × ℕ)
        → Contains dispatched c
        → c.ask ≡ ask.PartCopy bucket key id number b k under range → ⊥

  -- what changes the object completes such an upload, and each part for the object copies its range of the source
  pub record AreCopiedParts (bucket key from_bucket from_key etag : List ℕ) (ranges : ℕ → ℕ × ℕ) (count : ℕ)
      (journal : List Event)
      (dispatched : List Dispatched) : Type 0 where
    pub completes : AllThatChange bucket key (CompletesHere bucket key count journal dispatched) dispatched
    pub no_parts : (c : Dispatched) (id : List ℕ) (number : ℕ) → Contains dispatched c
        → c.ask ≡ ask.Part bucket key id number → ⊥
    pub copies : (c : Dispatched) (id : List ℕ) (number : ℕ) (b k under : List ℕ) (range : ℕ × ℕ)
        → Contains dispatched c
        → c.ask ≡ ask.PartCopy bucket key id number b k under range
        → (b ≡ from_bucket) × (k ≡ from_key) × (under ≡ etag) × (range ≡ ranges number)

  -- ---- the laws

  abbrev pub PartsAreStored : Type 0
  PartsAreStored = (bucket key : List ℕ) (pieces : ℕ → List ℕ) (count : ℕ)
      → IsNewAfterSuccess Shows bucket key (AreParts bucket key pieces count)
      (IsStored bucket key (joined pieces 1 count))

  abbrev pub PartsAreWhole : Type 0
  PartsAreWhole = (bucket key : List ℕ) (pieces : ℕ → List ℕ) (count : ℕ)
      → IsOldOrNew Shows bucket key (AreParts bucket key pieces count) (IsStored bucket key (joined pieces 1 count))

  abbrev pub CopiedPartsAreStored : Type 0
  CopiedPartsAreStored = (bucket key from_bucket from_key etag : List ℕ) (ranges : ℕ → ℕ × ℕ) (count : ℕ)
      → IsNewAfterSuccess Shows bucket key (AreCopiedParts bucket key from_bucket from_key etag ranges count)
      (IsCopiedInParts bucket key from_bucket from_key etag ranges count)

  abbrev pub CopiedPartsAreWhole : Type 0
  CopiedPartsAreWhole = (bucket key from_bucket from_key etag : List ℕ) (ranges : ℕ → ℕ × ℕ) (count : ℕ)
      → IsOldOrNew Shows bucket key (AreCopiedParts bucket key from_bucket from_key etag ranges count)
      (IsCopiedInParts bucket key from_bucket from_key etag ranges count)

-- An upload whose Abort was answered with success is open at no later moment.
abbrev pub AbortsAreFinal : Type 0
AbortsAreFinal = (limits : Limits) (start : State) (trace : List Step) → IsTrace limits [] start trace
    → AbortsLast trace
