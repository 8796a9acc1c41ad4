-- What an answer is: a relation between all bytes that came, how the talk ended, and what was answered (RFC 9112,
-- section 2.1).
use Rattle.std.specs.Prelude.{◌≡◌, ◌≢◌, ℕ, ◌≤◌, Bool, true, false, ◌&&◌, nat_le, nat_lt, List, [], ◌++◌, length, Option}
use Rattle.std.specs.Prelude.{unwrap_or, is_some, if◌then◌else◌, ⊤, codes}
use Rattle.httparse.specs.Grammar.{ResponseHead, status_code}
use Rattle.s3_model.specs.Talks.{Ending, Closed, Failed}
use Rattle.s3_model.specs.Lists.{Buffer}
use Rattle.s3_model.specs.declared.answers.Answered.{Answered}
use Rattle.s3_model.specs.declared.answers.Why.{Why}
use Rattle.s3_model.specs.declared.answers.Why.TheVariants as why
use Rattle.answer_grammar.specs.declared.framing.Framing.{Framing}
use Rattle.answer_grammar.specs.declared.framing.Framing.TheVariants as framing
use Rattle.answer_grammar.specs.Chunks.{ReadsChunks}
use Rattle.answer_grammar.specs.Head.{ReadsHead, IsFramed, header_lines, first_named, etag_of, micros_of, HasRange}
use Rattle.answer_grammar.specs.Head.{may_keep}

-- these bytes stand at the front, and others may stand behind
abbrev pub Begins : List ℕ → List ℕ → Type 0
Begins front whole = (behind : List ℕ) × (whole ≡ front ++ behind)

-- the body by its framing, from the bytes behind the head, and the bytes behind the body (RFC 9112, section 6.3)
abbrev pub HasBody : Framing → List ℕ → Ending → (body behind : List ℕ) → Type 0
HasBody framing.NoBody rest ending body behind = (body ≡ []) × (behind ≡ rest)
HasBody (framing.Length n) rest ending body behind = (length body ≡ n) × (rest ≡ body ++ behind)
HasBody framing.Chunked rest ending body behind = ReadsChunks rest body behind
HasBody framing.ToClose rest ending body behind = (body ≡ rest) × (behind ≡ []) × (ending ≡ Closed)

-- a status 2xx (RFC 9110, section 15.3)
abbrev pub is_success : ℕ → Bool
is_success status = nat_le 200 status && nat_lt status 300

-- how long the body of an answer with this status may be
abbrev pub body_limit : Option ℕ → ℕ → ℕ
body_limit limit status = if is_success status then unwrap_or limit 8_388_608 else 65_536

-- what the answer says of itself
pub record Describes (head_only : Bool) (head : ResponseHead) (framed : Framing) (answered : Answered) : Type 0 where
  pub framing_is : IsFramed head_only head answered.length framed
  pub status : answered.status ≡ status_code head
  pub etag : answered.etag ≡ etag_of (header_lines head)
  pub range : HasRange (first_named (codes "content-range") (header_lines head)) answered.range
  pub micros : answered.micros ≡ micros_of (header_lines head)
  pub keep : answered.keep ≡ may_keep head framed

-- The bytes are a head and its body, and what stands behind them counts for nothing.
pub record IsAnswer (head_only : Bool) (limit : Option ℕ) (got : List ℕ) (ending : Ending) (answered : Answered)
    (body behind : List ℕ) : Type 0 where
  pub head : ResponseHead
  pub rest : List ℕ
  pub reads : ReadsHead got head rest
  pub framed : Framing
  pub says : Describes head_only head framed answered
  pub has_body : HasBody framed rest ending body behind
  pub within : length body ≤ body_limit limit (status_code head)
  pub taken : answered.taken ≡ length body
  pub no_fault : ending ≢ Failed

-- the bytes are this answer with this body, whatever stands behind it
abbrev pub HasAnswer : Bool → Option ℕ → List ℕ → Ending → Answered → List ℕ → Type 0
HasAnswer head_only limit got ending answered body =
    (behind : List ℕ) × IsAnswer head_only limit got ending answered body behind

-- the breaks that a talk can have
abbrev pub IsOfTalk : Why → Type 0
IsOfTalk (why.Status status) = ⊥
IsOfTalk why.Internal = ⊥
IsOfTalk why.Document = ⊥
IsOfTalk reason = ⊤

-- the body goes to the place that the caller gave
abbrev pub goes_into : Option ℕ → ℕ → Bool
goes_into limit status = is_some limit && is_success status

-- where the body is: in the caller's place, or in the answer
pub record Delivers (limit : Option ℕ) (answered : Answered) (body : List ℕ) (before after : Buffer) : Type 0 where
  pub given : goes_into limit answered.status ≡ true → (after.bytes ≡ body) × (answered.body.bytes ≡ [])
  pub held : goes_into limit answered.status ≡ false → (after.bytes ≡ before.bytes) × (answered.body.bytes ≡ body)
