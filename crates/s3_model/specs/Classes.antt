-- What an answer means for its request: which answers are a success, which are a refusal that changed nothing, and
-- which leave it open.
use Rattle.std.specs.Prelude.{◌≡◌, ◌≢◌, ◌≤◌, ◌<◌, ◌⊎◌, ℕ, Bool, true, false, List, [], ◌∷◌, Some, codes, ◌==◌, if◌then◌else◌}
use Rattle.std.specs.Fmt.{decimal}
use Rattle.s3_model.specs.declared.requests.Ask.{Ask}
use Rattle.s3_model.specs.declared.requests.Ask.TheVariants as ask
use Rattle.s3_model.specs.declared.answers.Answered.{Answered}
use Rattle.s3_model.specs.declared.answers.Reply.{Reply}
use Rattle.s3_model.specs.declared.answers.Reply.TheVariants as reply
use Rattle.s3_model.specs.declared.answers.Class.{Class}
use Rattle.s3_model.specs.declared.answers.Class.TheVariants as class
use Rattle.s3_model.specs.declared.answers.Why.TheVariants as why
use Rattle.s3_model.specs.Files.{is_listed}
use Rattle.s3_model.specs.Replies.{IsSameReply, IsSameClass}

-- ---- the texts of codes

-- the message of a status for which no document speaks
abbrev pub status_message : ℕ → List ℕ
status_message status =
    if status == 400 then codes "Bad Request" else if status == 403 then codes "Forbidden"
    else if status == 404 then codes "Not Found"
    else if status == 412 then codes "Precondition Failed" else codes "Refused"

-- the codes of refusals that are tried again
abbrev pub tried_again_codes : List (List ℕ)
tried_again_codes = codes "SlowDown" ∷ codes "ServiceUnavailable" ∷ codes "RequestTimeout" ∷ []

-- the codes by which a 503 says that nothing was done
abbrev pub busy_codes : List (List ℕ)
busy_codes = codes "SlowDown" ∷ codes "ServiceUnavailable" ∷ []

-- every uncertain answer but for memory, and these refusals
abbrev pub is_tried_again : Class → Bool
is_tried_again (class.Success answered) = false
is_tried_again (class.Refusal code message) = is_listed tried_again_codes code
is_tried_again (class.Uncertain why.Memory) = false
is_tried_again (class.Uncertain why) = true

-- ---- the table of answers

abbrev pub IsTwoHundred : ℕ → Type 0
IsTwoHundred status = (200 ≤ status) × (status < 300)

-- the requests whose 2xx answer may still say that they failed
abbrev pub MayFailLate : Ask → Type 0
MayFailLate (ask.Copy bucket key from_bucket from_key etag) = Unit {0}
MayFailLate (ask.PartCopy bucket key upload number from_bucket from_key etag range) = Unit {0}
MayFailLate (ask.Complete bucket key upload etags fresh) = Unit {0}
MayFailLate asked = ⊥

-- an answer to HEAD has no body
abbrev pub HasBody : Ask → Type 0
HasBody (ask.Head bucket key) = ⊥
HasBody asked = Unit {0}

-- `ReadsError document code message`: the document is an Error document. `ReadsReply ask document reply`: it is the one
-- that the ask
-- needs, and says this reply. `document` is the body that the grammar of the answer gives.
module _ (ReadsError : List ℕ → List ℕ → List ℕ → Type 0) (ReadsReply : Ask → List ℕ → Reply → Type 0) where
  -- the headers and the document that the ask needs are there
  abbrev pub Succeeded : Ask → Answered → (document : List ℕ) → Reply → Type 0
  Succeeded (ask.Head bucket key) answered document (reply.Found size etag micros) =
      (answered.length ≡ Some size) × (answered.etag ≡ Some etag) × (answered.micros ≡ Some micros)
  Succeeded (ask.Get bucket key etag range) answered document (reply.Got status said length) =
      (status ≡ answered.status) × (said ≡ answered.range) × (length ≡ answered.taken)
  Succeeded (ask.Put bucket key content fresh) answered document reply.Stored = Unit {0}
  Succeeded (ask.Delete bucket key) answered document reply.Gone = Unit {0}
  Succeeded (ask.Abort bucket key upload) answered document reply.Gone = Unit {0}
  Succeeded (ask.Part bucket key upload number) answered document (reply.PartStored etag) = answered.etag ≡ Some etag
  Succeeded (ask.Copy bucket key from_bucket from_key etag) answered document reply.Copied =
      ReadsReply (ask.Copy bucket key from_bucket from_key etag) document reply.Copied
  Succeeded (ask.PartCopy bucket key upload number from_bucket from_key etag range) answered document
      (reply.PartStored stored) =
      ReadsReply (ask.PartCopy bucket key upload number from_bucket from_key etag range) document
      (reply.PartStored stored)
  Succeeded (ask.Create bucket key content) answered document (reply.Created upload) =
      ReadsReply (ask.Create bucket key content) document (reply.Created upload)
  Succeeded (ask.Complete bucket key upload etags fresh) answered document reply.Completed =
      ReadsReply (ask.Complete bucket key upload etags fresh) document reply.Completed
  Succeeded (ask.List bucket prefix delimited token) answered document (reply.Listed page) =
      ReadsReply (ask.List bucket prefix delimited token) document (reply.Listed page)
  Succeeded ask.Buckets answered document (reply.BucketList buckets) =
      ReadsReply ask.Buckets document (reply.BucketList buckets)
  Succeeded asked answered document said = ⊥

  -- the code and the message are those of the document, or of the status where none reads
  abbrev pub Refuses : Ask → Answered → (document code message : List ℕ) → Type 0
  Refuses asked answered document code message =
      (HasBody asked × ReadsError document code message)
      ⊎ ((HasBody asked → (c m : List ℕ) → ¬ (ReadsError document c m)) × (code ≡ decimal answered.status)
      × (message ≡ status_message answered.status))

  abbrev pub FailsLate : Ask → (document code message : List ℕ) → Type 0
  FailsLate asked document code message = MayFailLate asked × ReadsError document code message

  abbrev pub IsBusy : Answered → (document code message : List ℕ) → Type 0
  IsBusy answered document code message = (answered.status ≡ 503) × ReadsError document code message
      × (is_listed busy_codes code ≡ true)

  -- the class of a whole answer, one row each
  pub data IsClass (asked : Ask) (answered : Answered) (document : List ℕ) : Class → Type 0 where
    succeeded : (said : Reply) → IsTwoHundred answered.status → Succeeded asked answered document said
        → IsClass asked answered document (class.Success said)
    failed_late : (code message : List ℕ) → IsTwoHundred answered.status → FailsLate asked document code message
        → code ≢ codes "InternalError"
        → IsClass asked answered document (class.Refusal code message)
    failed_inside : (message : List ℕ) → IsTwoHundred answered.status
        → FailsLate asked document (codes "InternalError") message
        → IsClass asked answered document (class.Uncertain why.Internal)
    unreadable : IsTwoHundred answered.status → ((said : Reply) → ¬ (Succeeded asked answered document said))
        → ((code message : List ℕ) → ¬ (FailsLate asked document code message))
        → IsClass asked answered document (class.Uncertain why.Document)
    refused : (code message : List ℕ) → 300 ≤ answered.status → answered.status < 500
        → Refuses asked answered document code message
        → IsClass asked answered document (class.Refusal code message)
    busy : (code message : List ℕ) → IsBusy answered document code message
        → IsClass asked answered document (class.Refusal code message)
    other : 500 ≤ answered.status → ((code message : List ℕ) → ¬ (IsBusy answered document code message))
        → IsClass asked answered document (class.Uncertain (why.Status answered.status))

  -- Each document is one error at most, one reply of an ask at most, and not both.
  pub record HasOneReading : Type 0 where
    pub one_error : (document code message c m : List ℕ) → ReadsError document code message
        → ReadsError document c m → (code ≡ c) × (message ≡ m)
    pub one_reply : (asked : Ask) (document : List ℕ) (said same : Reply) → ReadsReply asked document said
        → ReadsReply asked document same → IsSameReply said same
    pub not_both : (asked : Ask) (document code message : List ℕ) (said : Reply)
        → ReadsError document code message → ReadsReply asked document said → ⊥

  -- Then an answer has one class at most.
  abbrev pub HasOneClass : Type 0
  HasOneClass = HasOneReading → (asked : Ask) (answered : Answered) (document : List ℕ) (one same : Class)
      → IsClass asked answered document one → IsClass asked answered document same → IsSameClass one same
