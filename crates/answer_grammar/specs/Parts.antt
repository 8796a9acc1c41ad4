-- What the parts of the reader answer.
use Rattle.std.specs.Prelude.{◌≡◌, ◌≢◌, ◌⊎◌, ℕ, ◌≤◌, Bool, true, false, not, ◌==◌, List, [], ◌∷◌, ◌++◌, length, drop}
use Rattle.std.specs.Prelude.{map, Option, Some, None, Result, Ok, Err, IfOk, codes}
use Rattle.std.specs.List.{list_all}
use Rattle.std.specs.Borrow.{Bor}
use Rattle.httparse.specs.Grammar.{ResponseHead, NeverHasResponse}
use Rattle.httparse.specs.Spans.{header_bytes}
use Rattle.http1.specs.Fields.{Header}
use Rattle.http1.specs.declared.fields.KnownFields.{KnownFields}
use Rattle.http1.specs.declared.fields.TransferEncoding.TheVariants as Coding
use Rattle.s3_model.specs.declared.answers.Why.{Why}
use Rattle.s3_model.specs.declared.answers.Why.TheVariants as why
use Rattle.answer_grammar.specs.declared.lines.Lines.{Lines}
use Rattle.answer_grammar.specs.declared.head.Head.{Head}
use Rattle.answer_grammar.specs.Answer.{Describes}
use Rattle.answer_grammar.specs.Breaks.{BeginsHead, HasUnfitHead, HasNoFraming}
use Rattle.answer_grammar.specs.Chunks.{HasSize, CannotBeSize, BeginsSize, HasTrailers, CannotBeTrailers}
use Rattle.answer_grammar.specs.Chunks.{BeginsTrailers}
use Rattle.answer_grammar.specs.Head.{ReadsHead, etag_of}

-- names and values
abbrev pub pairs : Lines → List Header
pairs lines = map (header_bytes lines.buf.now) lines.spans.now

-- none of the bytes is this one
abbrev pub Lacks : ℕ → List ℕ → Type 0
Lacks byte text = list_all (λ b. not (b == byte)) text ≡ true

-- the text is cut at the first of these bytes, or has none
abbrev pub Splits : ℕ → List ℕ → Option (Bor (List ℕ) × Bor (List ℕ)) → Type 0
Splits byte text None = Lacks byte text
Splits byte text (Some parts) = (text ≡ parts.0.now ++ byte ∷ parts.1.now) × Lacks byte parts.0.now

-- what stands behind `bytes `, where the text begins so
abbrev pub AfterUnit : List ℕ → Option (Bor (List ℕ)) → Type 0
AfterUnit text None = (rest : List ℕ) → text ≢ codes "bytes " ++ rest
AfterUnit text (Some rest) = text ≡ codes "bytes " ++ rest.now

abbrev pub HasEtag : {E : Type 0} → List Header → Result (Option (List ℕ)) E → Type 0
HasEtag headers result = IfOk result (λ etag. etag ≡ etag_of headers)

-- what the known fields say of codings: chunked is the only one, or there is none
abbrev pub IsCodedBy : KnownFields → Bool → Type 0
IsCodedBy known true = (known.transfer_encoding ≡ Coding.Chunked) × (known.other_coding ≡ false)
IsCodedBy known false = known.transfer_encoding ≡ Coding.Absent

-- a whole head stands at the front of the bytes, and this is what it says
pub record IsHeadAt (head_only : Bool) (got : List ℕ) (found : Head) : Type 0 where
  pub head : ResponseHead
  pub reads : ReadsHead got head (drop found.len got)
  pub within : found.len ≤ length got
  pub says : Describes head_only head found.framing found.answer
  pub empty : found.answer.body.bytes ≡ []

-- why no head is read, whatever follows
pub data RefusesHead (head_only : Bool) (got : List ℕ) (reason : Why) : Type 0 where
  memory : reason ≡ why.Memory → RefusesHead head_only got reason
  not_http : NeverHasResponse got ⊎ HasUnfitHead got → reason ≡ why.NotHttp → RefusesHead head_only got reason
  bad_length : (head : ResponseHead) (rest : List ℕ) → ReadsHead got head rest → HasNoFraming head_only head
      → reason ≡ why.BadLength
      → RefusesHead head_only got reason

-- what a whole head says, or why it says nothing
abbrev pub SaysOf : Bool → ResponseHead → ℕ → Result Head Why → Type 0
SaysOf head_only head len (Ok found) =
    (found.len ≡ len) × Describes head_only head found.framing found.answer × (found.answer.body.bytes ≡ [])
SaysOf head_only head len (Err reason) =
    (reason ≡ why.Memory) ⊎ ((reason ≡ why.BadLength) × HasNoFraming head_only head)

-- a head, the beginning of one, or why there is none
abbrev pub ReadsStep : Bool → List ℕ → Result (Option Head) Why → Type 0
ReadsStep head_only got (Ok (Some found)) = IsHeadAt head_only got found
ReadsStep head_only got (Ok None) = BeginsHead got
ReadsStep head_only got (Err reason) = RefusesHead head_only got reason

-- a chunk's line with its length and size, the beginning of one, or that there is none
abbrev pub ReadsSize : List ℕ → Result (Option (ℕ × ℕ)) Why → Type 0
ReadsSize after (Ok (Some found)) = (found.0 ≤ length after) × HasSize after found.1 (drop found.0 after)
ReadsSize after (Ok None) = BeginsSize after
ReadsSize after (Err reason) = (reason ≡ why.BadChunk) × CannotBeSize after

-- a trailer section with its length, the beginning of one, or that there is none
abbrev pub ReadsTrailers : List ℕ → Result (Option ℕ) Why → Type 0
ReadsTrailers after (Ok (Some len)) = (len ≤ length after) × HasTrailers after (drop len after)
ReadsTrailers after (Ok None) = BeginsTrailers after
ReadsTrailers after (Err reason) = (reason ≡ why.BadChunk) × CannotBeTrailers after
