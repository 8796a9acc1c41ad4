-- What the steps say by which an answer gets its class.
use Rattle.std.specs.Prelude.{◌≡◌, ◌≢◌, ◌⊎◌, ℕ, true, false, List, Option, Some, None, codes}
use Rattle.std.specs.Fmt.{decimal}
use Rattle.s3_model.specs.declared.requests.Ask.TheVariants as ask
use Rattle.s3_model.specs.declared.answers.Answered.{Answered}
use Rattle.s3_model.specs.declared.answers.Class.{Class}
use Rattle.s3_model.specs.declared.answers.Class.TheVariants as class
use Rattle.s3_model.specs.declared.answers.Reply.TheVariants as reply
use Rattle.s3_model.specs.declared.answers.Why.TheVariants as why
use Rattle.s3_model.specs.Classes.{busy_codes, status_message}
use Rattle.s3_model.specs.Files.{is_listed}
use Rattle.answer_classes.specs.Documents.{ReadsError}
use Rattle.answer_classes.specs.Showing.{HasClass}

-- a 2xx to HeadObject, with any document
abbrev pub IsHeadClass : Answered → Class → Type 0
IsHeadClass answered shown = (bucket key document : List ℕ) → HasClass (ask.Head bucket key) answered document shown

-- a 2xx to UploadPart, by its entity tag
abbrev pub IsPartClass : Option (List ℕ) → Class → Type 0
IsPartClass (Some etag) shown = shown ≡ class.Success (reply.PartStored etag)
IsPartClass None shown = shown ≡ class.Uncertain why.Document

-- a refusal by its status alone, unless memory ran out
abbrev pub IsStatusClass : (status : ℕ) → Class → Type 0
IsStatusClass status shown =
    (shown ≡ class.Refusal (decimal status) (status_message status)) ⊎ (shown ≡ class.Uncertain why.Memory)

-- a 503 by the code of its document
abbrev pub IsBusyClass : (code message : List ℕ) → Class → Type 0
IsBusyClass code message shown =
    ((shown ≡ class.Refusal code message) × (is_listed busy_codes code ≡ true))
    ⊎ ((shown ≡ class.Uncertain (why.Status 503)) × (is_listed busy_codes code ≡ false))

-- a 2xx by the code of its Error document
abbrev pub IsLateClass : (code message : List ℕ) → Class → Type 0
IsLateClass code message shown =
    ((shown ≡ class.Refusal code message) × (code ≢ codes "InternalError"))
    ⊎ ((shown ≡ class.Uncertain why.Internal) × (code ≡ codes "InternalError"))

-- an Error document, or none
abbrev pub IsErrorOf : (document : List ℕ) → Option (List ℕ × List ℕ) → Type 0
IsErrorOf document (Some error) = ReadsError document error.0 error.1
IsErrorOf document None = (error : List ℕ × List ℕ) → ¬ (ReadsError document error.0 error.1)
