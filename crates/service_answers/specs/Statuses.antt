-- The statuses of answers, and what stands in their bodies (Amazon S3 API reference).
use Rattle.std.specs.Prelude.{ℕ, List, [], Option, Some, None, codes}
use Rattle.object_table.specs.declared.fault.Refusal.{Refusal}
use Rattle.object_table.specs.declared.fault.Refusal.TheVariants as refusal
use Rattle.service_answers.specs.declared.gained.Gained.{Gained}
use Rattle.service_answers.specs.declared.gained.Gained.TheVariants as gained

-- 206 is the answer to a range
abbrev pub got_status : Option (ℕ × ℕ × ℕ) → ℕ
got_status None = 200
got_status (Some range) = 206

abbrev pub success_status : Gained → ℕ
success_status (gained.Got object) = got_status object.range
success_status gained.Gone = 204
success_status got = 200

-- the body, but for documents
abbrev pub body_of : Gained → Option (List ℕ)
body_of (gained.Got object) = Some object.bytes.items
body_of (gained.Found object) = Some []
body_of gained.Stored = Some []
body_of gained.Gone = Some []
body_of (gained.PartStored etag) = Some []
body_of got = None

-- the length that is stated where it is not that of the body: the object's, for a HEAD
abbrev pub length_of : Gained → Option ℕ
length_of (gained.Found object) = Some object.size
length_of got = None

-- the code of a refusal (Amazon S3 API reference, "List of error codes")
abbrev pub refusal_code : Refusal → List ℕ
refusal_code refusal.NoSuchBucket = codes "NoSuchBucket"
refusal_code refusal.NoSuchKey = codes "NoSuchKey"
refusal_code refusal.NoSuchUpload = codes "NoSuchUpload"
refusal_code refusal.PreconditionFailed = codes "PreconditionFailed"
refusal_code refusal.InvalidRange = codes "InvalidRange"
refusal_code refusal.InvalidPart = codes "InvalidPart"
refusal_code refusal.EntityTooSmall = codes "EntityTooSmall"
refusal_code refusal.InvalidArgument = codes "InvalidArgument"

-- and its status
abbrev pub refusal_status : Refusal → ℕ
refusal_status refusal.NoSuchBucket = 404
refusal_status refusal.NoSuchKey = 404
refusal_status refusal.NoSuchUpload = 404
refusal_status refusal.PreconditionFailed = 412
refusal_status refusal.InvalidRange = 416
refusal_status why = 400
