-- The documents that answers carry (Amazon S3 API Reference): that of an error, and the one that a request needs.
use Rattle.std.specs.Prelude.{ℕ, true, false, List}
use Rattle.s3_model.specs.declared.requests.Ask.{Ask}
use Rattle.s3_model.specs.declared.requests.Ask.TheVariants as ask
use Rattle.s3_model.specs.declared.answers.Reply.{Reply}
use Rattle.s3_model.specs.declared.answers.Reply.TheVariants as reply
use Rattle.s3_replies.specs.Buckets.{IsBucketList}
use Rattle.s3_replies.specs.Errors.{IsError}
use Rattle.s3_replies.specs.Listing.{IsListing}
use Rattle.s3_replies.specs.Results.{IsCompleted, IsCopied, IsCreated}

-- an Error document with this code and this message
abbrev pub ReadsError : (document code message : List ℕ) → Type 0
ReadsError document code message = IsError document (code, message)

-- The document is the one that the request needs, and says this reply. Copies of objects and of parts have roots of
-- their own.
abbrev pub ReadsReply : Ask → (document : List ℕ) → Reply → Type 0
ReadsReply (ask.Copy bucket key from_bucket from_key etag) document reply.Copied =
    (copied : List ℕ) × IsCopied false document copied
ReadsReply (ask.PartCopy bucket key upload number from_bucket from_key etag range) document (reply.PartStored stored) =
    IsCopied true document stored
ReadsReply (ask.Create bucket key content) document (reply.Created upload) = IsCreated document upload
ReadsReply (ask.Complete bucket key upload etags fresh) document reply.Completed =
    (whole : List ℕ) × IsCompleted document whole
ReadsReply (ask.List bucket prefix delimited token) document (reply.Listed page) = IsListing document page
ReadsReply ask.Buckets document (reply.BucketList buckets) = IsBucketList document buckets.items
ReadsReply asked document said = ⊥
