-- What one request may do to a service, and what is answered (Amazon S3 API reference).
use Rattle.std.specs.Prelude.{◌≡◌, ◌+◌, ◌-◌, ◌*◌, ◌/◌, ◌<◌, ◌≤◌, ◌⊎◌, ℕ, Bool, true, List, [], ◌∷◌, Option, Some, None}
use Rattle.std.specs.Prelude.{codes, flat_map, length, drop, take, IsNone, IsSome}
use Rattle.std.specs.FinMap.{get, empty}
use Rattle.s3_model.specs.declared.requests.Ask.{Ask}
use Rattle.s3_model.specs.declared.requests.Ask.TheVariants as ask
use Rattle.s3_model.specs.declared.answers.Reply.{Reply}
use Rattle.s3_model.specs.declared.answers.Reply.TheVariants as reply
use Rattle.s3_model.specs.declared.settings.Limits.{Limits}
use Rattle.s3_model.specs.declared.answers.Listed.{Listed}
use Rattle.s3_model.specs.declared.places.Entry.{Entry}
use Rattle.s3_model.specs.Files.{is_listed}
use Rattle.s3_service.specs.ServiceState.{State, Object, Upload, CompletedBy, Aborted, object_at, HasBucket}
use Rattle.s3_service.specs.ServiceState.{with_object, without_object, with_upload, with_part, with_ended}
use Rattle.s3_service.specs.Listing.{IsPage, AreBucketsOf}

-- what is answered: a reply, with the bytes of a Get, or a refusal of some code
pub data Answer : Type 0 where
  Replied : (reply : Reply) → (bytes : List ℕ) → Answer
  Refused : (code : List ℕ) → Answer

abbrev pub whole_seconds : ℕ → ℕ
whole_seconds micros = micros / 1000000 * 1000000

-- the bytes from first to last, both among them
abbrev pub bytes_within : ℕ × ℕ → List ℕ → List ℕ
bytes_within range bytes = take (range.1 + 1 - range.0) (drop range.0 bytes)

abbrev pub LiesWithin : ℕ × ℕ → List ℕ → Type 0
LiesWithin range bytes = (range.0 ≤ range.1) × (range.1 < length bytes)

-- the upload is open, under this bucket and key
pub record IsOpen (t : State) (id of_bucket of_key : List ℕ) (upload : Upload) : Type 0 where
  pub held : get t.uploads id ≡ Some upload
  pub bucket : upload.bucket ≡ of_bucket
  pub key : upload.key ≡ of_key

-- an upload of this bucket and key, without parts
pub record IsUnused (of_bucket of_key : List ℕ) (upload : Upload) : Type 0 where
  pub bucket : upload.bucket ≡ of_bucket
  pub key : upload.key ≡ of_key
  pub parts : upload.parts ≡ empty

-- the object there, under this ETag
pub record IsThere (t : State) (bucket key : List ℕ) (under : List ℕ) (object : Object) : Type 0 where
  pub held : object_at t bucket key ≡ Some object
  pub etag : object.etag ≡ under

-- these bytes, under some ETag and some time, and nothing else changes
abbrev pub StoresObject : State → List ℕ → List ℕ → List ℕ → State → Type 0
StoresObject old bucket key bytes new =
    (object : Object) × (object.bytes ≡ bytes) × (new ≡ with_object old bucket key object)

-- part i has the ith ETag, and the bytes are those of the parts in order; `at` counts from 1
abbrev pub Assembles : Upload → ℕ → List (List ℕ) → List (List ℕ) → Type 0
Assembles upload at [] pieces = pieces ≡ []
Assembles upload at (etag ∷ etags) [] = ⊥
Assembles upload at (etag ∷ etags) (piece ∷ pieces) =
    (get upload.parts at ≡ Some (record { bytes = piece; etag = etag })) × Assembles upload (at + 1) etags pieces

-- each but the last has at least so many bytes
abbrev pub AllButLastHave : ℕ → List (List ℕ) → Type 0
AllButLastHave least [] = Unit {0}
AllButLastHave least (piece ∷ []) = Unit {0}
AllButLastHave least (piece ∷ next ∷ pieces) = (least ≤ length piece) × AllButLastHave least (next ∷ pieces)

-- the parts that were uploaded make these bytes
abbrev pub Completes : Limits → Upload → List (List ℕ) → List ℕ → Type 0
Completes limits upload etags bytes =
    (pieces : List (List ℕ)) × Assembles upload 1 etags pieces × AllButLastHave limits.min_part pieces
    × (1 ≤ length pieces) × (bytes ≡ flat_map (λ piece. piece) pieces)

-- what a range asks of an object: all of it, or the range where it lies inside
abbrev pub Gives : Object → Option (ℕ × ℕ) → ℕ → Option (ℕ × ℕ × ℕ) → ℕ → List ℕ → Type 0
Gives object None status range size bytes = (status ≡ 200) × (size ≡ length object.bytes) × (bytes ≡ object.bytes)
Gives object (Some asked) status range size bytes =
    LiesWithin asked object.bytes
    × (((status ≡ 200) × (size ≡ length object.bytes) × (bytes ≡ object.bytes))
    ⊎ ((status ≡ 206) × (range ≡ Some (asked.0, asked.1, length object.bytes)) × (size ≡ length bytes)
    × (bytes ≡ bytes_within asked object.bytes)))

-- nothing is there under that key, where the request is not to replace
abbrev pub IsVacant : Bool → State → List ℕ → List ℕ → Type 0
IsVacant fresh t bucket key = fresh ≡ true → IsNone (object_at t bucket key)

-- ---- what each request does where it succeeds

-- HeadObject: the size, the ETag and the time in whole seconds of the object that is there
abbrev pub Finds : State → (bucket key : List ℕ) → (size : ℕ) → (etag : List ℕ) → (micros : ℕ) → State → Type 0
Finds old bucket key size etag micros new =
    (object : Object) × IsThere old bucket key etag object × (size ≡ length object.bytes)
    × (micros ≡ whole_seconds object.micros) × (new ≡ old)

-- GetObject: the object that is there under that ETag, or the range of it
abbrev pub Gets : State → (bucket key etag : List ℕ) → Option (ℕ × ℕ) → (status : ℕ) → Option (ℕ × ℕ × ℕ) → (size : ℕ)
    → (bytes : List ℕ) → State → Type 0
Gets old bucket key etag asked status range size bytes new =
    (object : Object) × IsThere old bucket key etag object × Gives object asked status range size bytes × (new ≡ old)

-- PutObject: the object becomes the body
abbrev pub Puts : State → (bucket key : List ℕ) → (fresh : Bool) → (body : List ℕ) → State → Type 0
Puts old bucket key fresh body new =
    HasBucket old bucket × IsVacant fresh old bucket key × StoresObject old bucket key body new

-- CopyObject: the object becomes the bytes of the source that is there under that ETag
abbrev pub Copies : State → (bucket key from_bucket from_key etag : List ℕ) → State → Type 0
Copies old bucket key from_bucket from_key etag new =
    (source : Object) × IsThere old from_bucket from_key etag source × HasBucket old bucket
    × StoresObject old bucket key source.bytes new

-- DeleteObject: nothing is under that key
abbrev pub Deletes : State → (bucket key : List ℕ) → State → Type 0
Deletes old bucket key new = HasBucket old bucket × (new ≡ without_object old bucket key)

-- CreateMultipartUpload: an upload without parts, under an id that is neither open nor ended
abbrev pub Creates : State → (bucket key id : List ℕ) → State → Type 0
Creates old bucket key id new =
    HasBucket old bucket × IsNone (get old.uploads id) × IsNone (get old.ended id) × (upload : Upload)
    × IsUnused bucket key upload × (new ≡ with_upload old id upload)

-- UploadPart: that part of an open upload is the body, under some ETag
abbrev pub StoresPart : State → (bucket key id : List ℕ) → (number : ℕ) → (body etag : List ℕ) → State → Type 0
StoresPart old bucket key id number body etag new =
    (upload : Upload) × IsOpen old id bucket key upload
    × (new ≡ with_part old id upload number (record { bytes = body; etag = etag }))

-- UploadPartCopy: that part is the range of the source that is there under that ETag
abbrev pub CopiesPart : State → (bucket key id : List ℕ) → (number : ℕ) → (from_bucket from_key under : List ℕ)
    → (range : ℕ × ℕ) → (etag : List ℕ) → State → Type 0
CopiesPart old bucket key id number from_bucket from_key under range etag new =
    (upload : Upload) × (source : Object) × IsOpen old id bucket key upload
    × IsThere old from_bucket from_key under source × LiesWithin range source.bytes
    × (new ≡ with_part old id upload number (record { bytes = bytes_within range source.bytes; etag = etag }))

-- CompleteMultipartUpload: the object becomes the parts in order, and the upload ends with that list
abbrev pub Joins : Limits → State → (bucket key id : List ℕ) → (etags : List (List ℕ)) → (fresh : Bool) → State → Type 0
Joins limits old bucket key id etags fresh new =
    (upload : Upload) × (whole : List ℕ) × (mid : State) × IsOpen old id bucket key upload
    × IsVacant fresh old bucket key × Completes limits upload etags whole
    × StoresObject old bucket key whole mid × (new ≡ with_ended mid id (CompletedBy etags))

-- the same once more, for an upload that ended with that list
abbrev pub JoinsAgain : State → (id : List ℕ) → (etags : List (List ℕ)) → State → Type 0
JoinsAgain old id etags new = (get old.ended id ≡ Some (CompletedBy etags)) × (new ≡ old)

-- AbortMultipartUpload: an open upload ends as aborted
abbrev pub Aborts : State → (bucket key id : List ℕ) → State → Type 0
Aborts old bucket key id new = (upload : Upload) × IsOpen old id bucket key upload × (new ≡ with_ended old id Aborted)

-- ListObjectsV2: the next page
abbrev pub ListsPage : State → (bucket prefix : List ℕ) → (delimited : Bool) → Option (List ℕ) → Listed → State → Type 0
ListsPage old bucket prefix delimited token page new =
    HasBucket old bucket × IsPage old bucket prefix delimited token page new

-- ListBuckets: all buckets
abbrev pub ListsBuckets : State → List Entry → State → Type 0
ListsBuckets old buckets new = AreBucketsOf old buckets × (new ≡ old)

-- A success, one row for each request; the lists are the body of the request and that of the reply.
abbrev pub Succeeds : Limits → State → Ask → List ℕ → Reply → List ℕ → State → Type 0
Succeeds limits old (ask.Head bucket key) body (reply.Found size etag micros) bytes new =
    Finds old bucket key size etag micros new
Succeeds limits old (ask.Get bucket key etag asked) body (reply.Got status range size) bytes new =
    Gets old bucket key etag asked status range size bytes new
Succeeds limits old (ask.Put bucket key content fresh) body reply.Stored bytes new = Puts old bucket key fresh body new
Succeeds limits old (ask.Copy bucket key from_bucket from_key etag) body reply.Copied bytes new =
    Copies old bucket key from_bucket from_key etag new
Succeeds limits old (ask.Delete bucket key) body reply.Gone bytes new = Deletes old bucket key new
Succeeds limits old (ask.Create bucket key content) body (reply.Created id) bytes new = Creates old bucket key id new
Succeeds limits old (ask.Part bucket key id number) body (reply.PartStored etag) bytes new =
    StoresPart old bucket key id number body etag new
Succeeds limits old (ask.PartCopy bucket key id number b k under range) body (reply.PartStored etag) bytes new =
    CopiesPart old bucket key id number b k under range etag new
Succeeds limits old (ask.Complete bucket key id etags fresh) body reply.Completed bytes new =
    Joins limits old bucket key id etags.items fresh new ⊎ JoinsAgain old id etags.items new
Succeeds limits old (ask.Abort bucket key id) body reply.Gone bytes new = Aborts old bucket key id new
Succeeds limits old (ask.List bucket prefix delimited token) body (reply.Listed page) bytes new =
    ListsPage old bucket prefix delimited token page new
Succeeds limits old ask.Buckets body (reply.BucketList buckets) bytes new = ListsBuckets old buckets.items new
Succeeds limits old asked body answered bytes new = ⊥

-- ---- refusals

-- the codes that say that an object was there
abbrev pub taken_codes : List (List ℕ)
taken_codes = codes "PreconditionFailed" ∷ codes "412" ∷ []

-- A request that is not to replace is refused with one of these codes only where the object is there.
abbrev pub IsTakenOnlyWhereThere : Bool → State → (bucket key code : List ℕ) → Type 0
IsTakenOnlyWhereThere fresh t bucket key code =
    fresh ≡ true → is_listed taken_codes code ≡ true → IsSome (object_at t bucket key)

-- Every request may be refused with any code, but for this.
abbrev pub MayRefuse : State → Ask → (code : List ℕ) → Type 0
MayRefuse t (ask.Put bucket key content fresh) code = IsTakenOnlyWhereThere fresh t bucket key code
MayRefuse t (ask.Complete bucket key id etags fresh) code = IsTakenOnlyWhereThere fresh t bucket key code
MayRefuse t asked code = Unit {0}

-- A refusal leaves all as it was.
abbrev pub RefusesAsk : State → Ask → (code : List ℕ) → State → Type 0
RefusesAsk old asked code new = (new ≡ old) × MayRefuse old asked code

-- One request served.
abbrev pub Serves : Limits → State → Ask → List ℕ → Answer → State → Type 0
Serves limits old asked body (Replied reply bytes) new = Succeeds limits old asked body reply bytes new
Serves limits old asked body (Refused code) new = RefusesAsk old asked code new

-- What somebody else may do: write or remove one object of a bucket that is there.
pub data ExternalWrite : Type 0 where
  Writes : (bucket key : List ℕ) → (object : Object) → ExternalWrite
  Removes : (bucket key : List ℕ) → ExternalWrite

abbrev pub bucket_of : ExternalWrite → List ℕ
bucket_of (Writes bucket key object) = bucket
bucket_of (Removes bucket key) = bucket

abbrev pub after_external : ExternalWrite → State → State
after_external (Writes bucket key object) t = with_object t bucket key object
after_external (Removes bucket key) t = without_object t bucket key

-- the object that a request may change
abbrev pub MayChange : Ask → List ℕ → List ℕ → Type 0
MayChange (ask.Put b k content fresh) bucket key = (b ≡ bucket) × (k ≡ key)
MayChange (ask.Copy b k from_bucket from_key etag) bucket key = (b ≡ bucket) × (k ≡ key)
MayChange (ask.Delete b k) bucket key = (b ≡ bucket) × (k ≡ key)
MayChange (ask.Complete b k id etags fresh) bucket key = (b ≡ bucket) × (k ≡ key)
MayChange asked bucket key = ⊥
