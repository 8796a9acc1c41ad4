-- The texts of causes. That of a service is the AWS CLI's; operations have the names of the Amazon S3 API Reference.
use Rattle.std.specs.Prelude.{◌++◌, ℕ, List, [], codes, decimal, length, min, take}
use Rattle.std.specs.Fmt.Cut.{floor_char_boundary}
use Rattle.s3_model.specs.declared.requests.Op.{Op}
use Rattle.s3_model.specs.declared.requests.Op.TheVariants as op
use Rattle.s3_model.specs.declared.answers.Why.{Why}
use Rattle.s3_model.specs.declared.answers.Why.TheVariants as why
use Rattle.s3_model.specs.declared.outcomes.Cause.{Cause}
use Rattle.s3_model.specs.declared.outcomes.Cause.TheVariants as cause
use Rattle.s3_model.specs.declared.outcomes.FileCall.{FileCall}
use Rattle.s3_model.specs.declared.outcomes.FileCall.TheVariants as call
use Rattle.s3_model.specs.declared.outcomes.Reason.{Reason}
use Rattle.s3_model.specs.declared.outcomes.Reason.TheVariants as reason

-- the name of an operation
abbrev pub op_name : Op → List ℕ
op_name op.Head = codes "HeadObject"
op_name op.Get = codes "GetObject"
op_name op.Put = codes "PutObject"
op_name op.Copy = codes "CopyObject"
op_name op.Delete = codes "DeleteObject"
op_name op.Create = codes "CreateMultipartUpload"
op_name op.Part = codes "UploadPart"
op_name op.PartCopy = codes "UploadPartCopy"
op_name op.Complete = codes "CompleteMultipartUpload"
op_name op.Abort = codes "AbortMultipartUpload"
op_name op.List = codes "ListObjectsV2"
op_name op.Buckets = codes "ListBuckets"

-- why nobody can know what a request did
abbrev pub why_text : Why → List ℕ
why_text why.WireFailed = codes "connection failed"
why_text why.EndedEarly = codes "connection ended early"
why_text why.NotHttp = codes "not HTTP"
why_text why.HeadTooLong = codes "head too long"
why_text (why.BodyTooLong limit) = codes "body too long"
why_text why.BadLength = codes "bad length"
why_text why.BadChunk = codes "bad chunk"
why_text why.Memory = codes "out of memory"
why_text (why.Status status) = codes "status " ++ decimal status
why_text why.Internal = codes "internal error"
why_text why.Document = codes "unreadable answer"

abbrev pub call_name : FileCall → List ℕ
call_name call.Read = codes "read"
call_name call.Create = codes "create"
call_name call.Write = codes "write"
call_name call.Rename = codes "rename"
call_name call.Remove = codes "remove"

-- why a run was cancelled; that its own task failed is never a cause
abbrev pub reason_text : Reason → List ℕ
reason_text reason.TaskFailed = []
reason_text reason.OutputFailed = codes "output failed"
reason_text reason.ListingEnded = codes "listing ended"
reason_text reason.OutOfMemory = codes "out of memory"

-- the longest front of a path that ends a character and has at most so many bytes
abbrev pub front_within : ℕ → List ℕ → List ℕ
front_within limit path = take (floor_char_boundary path (min limit (length path))) path

-- what stands behind the line of a task that did not end as planned, without a line feed; `dest` is its destination as
-- it is printed
abbrev pub cause_text : (dest : List ℕ) → Cause → List ℕ
cause_text dest (cause.Service called code message) =
    codes "An error occurred (" ++ code ++ codes ") when calling the " ++ op_name called ++ codes " operation: "
    ++ message
cause_text dest (cause.Lost called lost) =
    codes "The answer to the " ++ op_name called ++ codes " operation was lost (" ++ why_text lost ++ codes ")"
cause_text dest cause.Changed = codes "The source has changed"
cause_text dest (cause.BadReply called) =
    codes "The answer to the " ++ op_name called ++ codes " operation does not fit the request"
cause_text dest (cause.Files failed) = codes "The file call " ++ call_name failed ++ codes " failed"
cause_text dest (cause.Blocked limit) = codes "A file or folder stands in the way: " ++ front_within limit dest
cause_text dest (cause.Cancelled given) = codes "Cancelled (" ++ reason_text given ++ codes ")"
cause_text dest cause.Memory = codes "Out of memory"

-- the causes that are printed: all but a cancel for the task's own failure
abbrev pub IsShown : Cause → Type 0
IsShown (cause.Cancelled reason.TaskFailed) = ⊥
IsShown other = Unit {0}
