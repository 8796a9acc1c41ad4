-- Why bytes are no answer: a relation between all bytes that came, how the talk ended, and the one reason.
use Rattle.std.specs.Prelude.{◌≡◌, ◌≢◌, ◌⊎◌, ℕ, ◌<◌, ◌≤◌, Bool, List, [], length, take, Option}
use Rattle.httparse.specs.Grammar.{ResponseHead, print_response, status_code, ReadsResponse, HasNoResponse}
use Rattle.httparse.specs.Grammar.{NeverHasResponse, MayBecomeResponse}
use Rattle.s3_model.specs.Talks.{Ending, Closed, Failed, Finished}
use Rattle.s3_model.specs.declared.answers.Answered.{Answered}
use Rattle.s3_model.specs.declared.answers.Why.{Why}
use Rattle.s3_model.specs.declared.answers.Why.TheVariants as why
use Rattle.answer_grammar.specs.declared.framing.Framing.{Framing}
use Rattle.answer_grammar.specs.declared.framing.Framing.TheVariants as framing
use Rattle.answer_grammar.specs.Answer.{IsAnswer, body_limit}
use Rattle.answer_grammar.specs.Chunks.{BreaksChunks}
use Rattle.answer_grammar.specs.Head.{ReadsHead, IsFramed}

-- no whole head stands at the front, and these bytes begin one
pub record BeginsHead (got : List ℕ) : Type 0 where
  pub none : HasNoResponse got
  pub may_come : MayBecomeResponse got

-- a whole head of at most 65,536 bytes that has more than 100 header lines, or the status of an interim answer
pub record HasUnfitHead (got : List ℕ) : Type 0 where
  pub head : ResponseHead
  pub rest : List ℕ
  pub reads : ReadsResponse got head rest
  pub small : length (print_response head) ≤ 65_536
  pub unfit : (100 < length head.fields) ⊎ (status_code head < 200)

-- what the first 65,536 bytes say, where no head can be read
pub data BreaksHead (got : List ℕ) (ending : Ending) (reason : Why) : Type 0 where
  no_head : NeverHasResponse (take 65_536 got) → reason ≡ why.NotHttp → BreaksHead got ending reason
  unfit : HasUnfitHead got → reason ≡ why.NotHttp → BreaksHead got ending reason
  too_long : 65_536 ≤ length got → BeginsHead (take 65_536 got) → reason ≡ why.HeadTooLong
      → BreaksHead got ending reason
  cut : length got < 65_536 → BeginsHead got → ending ≡ Closed → reason ≡ why.EndedEarly → BreaksHead got ending reason

-- the header lines state no one end of the body (RFC 9112, section 6.3)
abbrev pub HasNoFraming : Bool → ResponseHead → Type 0
HasNoFraming head_only head = (stated : Option ℕ) (framed : Framing) → ¬ (IsFramed head_only head stated framed)

-- the body by its framing, from the bytes behind the head
abbrev pub BreaksBody : Framing → ℕ → List ℕ → Ending → Why → Type 0
BreaksBody framing.NoBody limit rest ending reason = ⊥
BreaksBody (framing.Length n) limit rest ending reason =
    ((limit < n) × (reason ≡ why.BodyTooLong limit))
    ⊎ ((n ≤ limit) × (length rest < n) × (ending ≡ Closed) × (reason ≡ why.EndedEarly))
BreaksBody framing.Chunked limit rest ending reason = BreaksChunks limit rest ending reason
BreaksBody framing.ToClose limit rest ending reason = (limit < length rest) × (reason ≡ why.BodyTooLong limit)

-- the bytes break off in the head, in what its lines say, or in the body
pub data Breaks (head_only : Bool) (limit : Option ℕ) (got : List ℕ) (ending : Ending) (reason : Why) : Type 0 where
  in_head : BreaksHead got ending reason → Breaks head_only limit got ending reason
  in_lines : (head : ResponseHead) (rest : List ℕ) → ReadsHead got head rest → HasNoFraming head_only head
      → reason ≡ why.BadLength
      → Breaks head_only limit got ending reason
  in_body : (head : ResponseHead) (rest : List ℕ) (stated : Option ℕ) (framed : Framing) → ReadsHead got head rest
      → IsFramed head_only head stated framed
      → BreaksBody framed (body_limit limit (status_code head)) rest ending reason
      → Breaks head_only limit got ending reason

-- A call of the wire failed, or else the bytes break off.
abbrev pub IsBreak : Bool → Option ℕ → List ℕ → Ending → Why → Type 0
IsBreak head_only limit got ending reason =
    ((ending ≡ Failed) × (reason ≡ why.WireFailed)) ⊎ ((ending ≢ Failed) × Breaks head_only limit got ending reason)

-- ---- one end

-- what bytes and the end of a talk come to: an answer with its body and the bytes behind it, or a break
pub data End : Type 0 where
  answer : Answered → (body behind : List ℕ) → End
  broken : Why → End

abbrev pub EndsAs : Bool → Option ℕ → List ℕ → Ending → End → Type 0
EndsAs head_only limit got ending (answer answered body behind) =
    IsAnswer head_only limit got ending answered body behind
EndsAs head_only limit got ending (broken reason) = IsBreak head_only limit got ending reason

-- the same answer, wherever its body is held, or the same reason
abbrev pub IsSameEnd : End → End → Type 0
IsSameEnd (answer one body behind) (answer other same left) =
    (record one { body = other.body } ≡ other) × (body ≡ same) × (behind ≡ left)
IsSameEnd (broken reason) (broken other) = reason ≡ other
IsSameEnd one other = ⊥

-- No bytes and ending come to two answers, to two breaks, or to an answer and a break.
abbrev pub OneEnd : Type 0
OneEnd = (head_only : Bool) (limit : Option ℕ) (got : List ℕ) (ending : Ending) (one other : End)
    → EndsAs head_only limit got ending one → EndsAs head_only limit got ending other → IsSameEnd one other

-- Nothing is decided yet: if the connection closed here, it would cut the answer off, or be the end of its body.
abbrev pub IsOpen : Bool → Option ℕ → List ℕ → Type 0
IsOpen head_only limit got =
    IsBreak head_only limit got Closed why.EndedEarly
    ⊎ ((answered : Answered) × (body : List ℕ) × (is : IsAnswer head_only limit got Closed answered body [])
    × (is.framed ≡ framing.ToClose))

-- What is open has no end as long as the talk goes on: neither an answer nor a break, so more bytes have to come.
abbrev pub NoEndYet : Type 0
NoEndYet = (head_only : Bool) (limit : Option ℕ) (got : List ℕ) (end : End)
    → IsOpen head_only limit got → ¬ (EndsAs head_only limit got Finished end)
