-- The documents that name an upload or an entity tag (Amazon S3 API Reference: CreateMultipartUpload,
-- CompleteMultipartUpload, CopyObject and UploadPartCopy).
use Rattle.std.specs.Prelude.{ℕ, Bool, true, false, List, Some, codes}
use Rattle.reply_xml.specs.declared.elements.Element.TheVariants as element
use Rattle.reply_xml.specs.Documents.{IsOf}
use Rattle.reply_xml.specs.Children.{HasLeaf, HasOnly, IsPlain}
use Rattle.reply_xml.specs.Tables.{Done, ExactlyOnce, Row, Table}
use Rattle.reply_xml.specs.Unfit.{AnyText, OwnForm}

-- an upload was made, with this id
abbrev pub IsCreated : List ℕ → List ℕ → Type 0
IsCreated = IsOf (codes "InitiateMultipartUploadResult") (HasLeaf element.UploadId)

-- an upload was completed, to an object with this entity tag, which may be any text
abbrev pub IsCompleted : List ℕ → List ℕ → Type 0
IsCompleted = IsOf (codes "CompleteMultipartUploadResult") (HasOnly IsPlain element.ETag)

-- the root of the answer to a copy, of an object or of a part
abbrev pub copy_root : Bool → List ℕ
copy_root false = codes "CopyObjectResult"
copy_root true = codes "CopyPartResult"

-- an object or a part was copied, to one with this entity tag
abbrev pub IsCopied : Bool → List ℕ → List ℕ → Type 0
IsCopied part = IsOf (copy_root part) (HasLeaf element.ETag)

-- the elements of these documents
abbrev pub created_table : Table
created_table = Row element.UploadId ExactlyOnce (Some OwnForm) Done Done

abbrev pub completed_table : Table
completed_table = Row element.ETag ExactlyOnce (Some AnyText) Done Done

abbrev pub copied_table : Table
copied_table = Row element.ETag ExactlyOnce (Some OwnForm) Done Done
