-- What a request does to a service in memory and what it gains, as the definition of the request has it.
use Rattle.std.specs.Prelude.{◌≡◌, ℕ, List, [], Option, length}
use Rattle.object_table.specs.Pages.{IsBehind}
use Rattle.s3_model.specs.declared.requests.Ask.{Ask}
use Rattle.s3_model.specs.declared.requests.Ask.TheVariants as ask
use Rattle.s3_model.specs.declared.answers.Reply.{Reply}
use Rattle.s3_model.specs.declared.answers.Reply.TheVariants as reply
use Rattle.s3_model.specs.declared.settings.Limits.{Limits}
use Rattle.s3_service.specs.Listing.{GoesOnAfter}
use Rattle.s3_service.specs.ServiceState.{State, HasBucket}
use Rattle.s3_service.specs.Serves.{Succeeds}
use Rattle.service_answers.specs.declared.gained.Gained.{Gained}
use Rattle.service_answers.specs.declared.gained.Gained.TheVariants as gained
use Rattle.service_answers.specs.Statuses.{got_status}

-- the reply that says what was gained
abbrev pub reply_of : Gained → Reply
reply_of (gained.Found object) = reply.Found object.size object.etag object.micros
reply_of (gained.Got object) = reply.Got (got_status object.range) object.range (length object.bytes.items)
reply_of gained.Stored = reply.Stored
reply_of gained.Copied = reply.Copied
reply_of gained.Gone = reply.Gone
reply_of (gained.Created id) = reply.Created id
reply_of (gained.PartStored etag) = reply.PartStored etag
reply_of (gained.PartCopied etag) = reply.PartStored etag
reply_of gained.Completed = reply.Completed
reply_of (gained.Listed page) = reply.Listed page
reply_of (gained.Buckets entries) = reply.BucketList entries

-- the bytes of a Get
abbrev pub bytes_of : Gained → List ℕ
bytes_of (gained.Got object) = object.bytes.items
bytes_of got = []

-- A page was gained whose names come behind the place of the token.
abbrev pub IsPageBehind : State → (token : Option (List ℕ)) → Gained → Type 0
IsPageBehind old token (gained.Listed page) = (last : Option (List ℕ)) × GoesOnAfter old token last × IsBehind last page
IsPageBehind old token got = ⊥

-- The request did what its definition says. Of a page only this is said: its bucket is there, its names come behind the
-- place of the token, and nothing but tokens changes.
abbrev pub IsServed : Limits → State → Ask → List ℕ → Gained → State → Type 0
IsServed limits old (ask.List bucket prefix delimited token) body got new =
    HasBucket old bucket × IsPageBehind old token got
    × (new.objects ≡ old.objects) × (new.uploads ≡ old.uploads) × (new.ended ≡ old.ended)
IsServed limits old asked body got new = Succeeds limits old asked body (reply_of got) (bytes_of got) new

-- a request for an upload in parts
abbrev pub IsForUpload : Ask → Type 0
IsForUpload (ask.Create bucket key content) = Unit {0}
IsForUpload (ask.Part bucket key id number) = Unit {0}
IsForUpload (ask.PartCopy bucket key id number from_bucket from_key etag range) = Unit {0}
IsForUpload (ask.Complete bucket key id etags fresh) = Unit {0}
IsForUpload (ask.Abort bucket key id) = Unit {0}
IsForUpload asked = ⊥

-- a request that reads an object
abbrev pub IsRead : Ask → Type 0
IsRead (ask.Head bucket key) = Unit {0}
IsRead (ask.Get bucket key etag range) = Unit {0}
IsRead asked = ⊥

-- a request that lists buckets or objects
abbrev pub IsList : Ask → Type 0
IsList (ask.List bucket prefix delimited token) = Unit {0}
IsList ask.Buckets = Unit {0}
IsList asked = ⊥

-- a request that puts an object or takes one away
abbrev pub IsChange : Ask → Type 0
IsChange (ask.Put bucket key content fresh) = Unit {0}
IsChange (ask.Copy bucket key from_bucket from_key etag) = Unit {0}
IsChange (ask.Delete bucket key) = Unit {0}
IsChange asked = ⊥

-- a request that puts a part
abbrev pub IsForPart : Ask → Type 0
IsForPart (ask.Part bucket key id number) = Unit {0}
IsForPart (ask.PartCopy bucket key id number from_bucket from_key etag range) = Unit {0}
IsForPart asked = ⊥
