-- What one exchange comes to, by the talk that was made for it.
use Rattle.std.specs.Prelude.{◌≡◌, ◌≢◌, ◌⊎◌, ◌↔◌, ℕ, ◌<◌, ◌≤◌, ◌&&◌, ◌==◌, Bool, true, false, not, List, [], ◌++◌}
use Rattle.std.specs.Prelude.{length, Option, option_map, ⊤}
use Rattle.std.specs.List.{list_all}
use Rattle.s3_model.specs.Talks.{Talk, Ending, Failed, Closed, Finished, WireLog}
use Rattle.s3_model.specs.Lists.{Buffer}
use Rattle.s3_model.specs.declared.answers.Answered.{Answered}
use Rattle.s3_model.specs.declared.answers.Talked.{Talked}
use Rattle.s3_model.specs.declared.answers.Talked.TheVariants as talked
use Rattle.s3_model.specs.declared.answers.Why.{Why}
use Rattle.s3_model.specs.declared.answers.Why.TheVariants as why
use Rattle.s3_model.specs.declared.places.Endpoint.{Endpoint}
use Rattle.answer_grammar.specs.Answer.{Begins, IsAnswer, Delivers}
use Rattle.answer_grammar.specs.Breaks.{BeginsHead, IsBreak, IsOpen}
use Rattle.s3_outside.specs.Seen.{IsSeenAfter}
use Rattle.http_exchange.specs.Seen.{with_talk}

-- P of the answer, if there is one
abbrev pub IfAnswered : Talked → (Answered → Type 0) → Type 0
IfAnswered (talked.Answered answered) P = P answered
IfAnswered (talked.Broken reason) P = ⊤

-- P of the reason, if the talk broke
abbrev pub IfBroken : Talked → (Why → Type 0) → Type 0
IfBroken (talked.Answered answered) P = ⊤
IfBroken (talked.Broken reason) P = P reason

-- the bytes of a request and where they go, whether its answer has no body, how long a body the caller has a place
-- for, and whether the caller wants the connection kept
pub record RawRequest : Type 0 where
  pub endpoint : Endpoint
  pub bytes : List ℕ
  pub head_only : Bool
  pub limit : Option ℕ
  pub keep : Bool

-- ---- in pieces

-- P holds of the bytes that stand there without the last ones, at most 16,384 of what the last call took. Where the
-- talk closed or failed in it, it took none, and P holds of all. In a talk that goes on there may have been no call.
abbrev pub InPieces : (List ℕ → Type 0) → List ℕ → List ℕ → Ending → Type 0
InPieces P before got Finished =
    (got ≡ []) ⊎ ((first : List ℕ) × (last : List ℕ) × (got ≡ first ++ last) × (length last ≤ 16_384)
    × P (before ++ first))
InPieces P before got Closed = P (before ++ got)
InPieces P before got Failed = P (before ++ got)

-- none of the bytes ends a line
abbrev pub LacksLineEnd : List ℕ → Type 0
LacksLineEnd bytes = list_all (λ b. not (b == 10)) bytes ≡ true

-- fewer bytes than a head may have, which up to the end of the last line begin one
abbrev pub BeginsByLine : List ℕ → Type 0
BeginsByLine got =
    (lines : List ℕ) × (part : List ℕ) × (got ≡ lines ++ part) × LacksLineEnd part × (length got < 65_536)
    × BeginsHead lines

-- nothing is decided yet; in the head, not up to the end of the last line
abbrev pub IsOpenByLine : Bool → Option ℕ → List ℕ → Type 0
IsOpenByLine head_only limit got = IsOpen head_only limit got ⊎ BeginsByLine got

-- ---- the result

-- the connection may serve another request: that was asked for, the answer allows it, and nothing stands behind it
abbrev pub is_reusable : Bool → Answered → List ℕ → Bool
is_reusable keep answered behind = keep && (answered.keep && (length behind == 0))

-- The talk has this answer, with its body where it belongs.
pub record IsAnswered (request : RawRequest) (before after : Buffer) (answered : Answered) (talk : Talk)
    (kept : Bool) : Type 0 where
  pub body : List ℕ
  pub behind : List ℕ
  pub is_answer : IsAnswer request.head_only request.limit talk.got talk.ending answered body behind
  pub delivers : Delivers request.limit answered body before after
  pub keeps : kept ≡ is_reusable request.keep answered behind

-- The talk breaks off for this reason, or memory ran out; the connection is not kept.
pub record IsBroken (request : RawRequest) (reason : Why) (talk : Talk) (kept : Bool) : Type 0 where
  pub breaks : (reason ≡ why.Memory) ⊎ IsBreak request.head_only request.limit talk.got talk.ending reason
  pub ends : kept ≡ false

-- The talk is one for this request, and the result says what came back in it.
pub record IsExchange (request : RawRequest) (before after : Buffer) (result : Talked) (talk : Talk)
    (kept : Bool) : Type 0 where
  pub host : talk.host ≡ request.endpoint.host
  pub port : talk.port ≡ request.endpoint.port
  pub sent : Begins talk.sent request.bytes
  pub whole : result ≢ talked.Broken why.WireFailed → talk.sent ≡ request.bytes
  pub answered : IfAnswered result (λ answered. IsAnswered request before after answered talk kept)
  pub broken : IfBroken result (λ reason. IsBroken request reason talk kept)
  pub failed : (result ≡ talked.Broken why.WireFailed) ↔ (talk.ending ≡ Failed)
  pub reads_on : InPieces (IsOpenByLine request.head_only request.limit) [] talk.got talk.ending
      ⊎ ((talk.got ≡ []) × (talk.ending ≡ Failed))

-- Exactly one talk was made, it stands in the log where that is still seen, and this is what it came to.
abbrev pub Exchanges : RawRequest → (seen_before seen_after : Option WireLog) → (alive_after : Option Bool)
    → (faults_before faults_after : ℕ) → (place_before place_after : Buffer) → Talked → Type 0
Exchanges request seen_before seen_after alive_after faults_before faults_after place_before place_after result =
    (talk : Talk) × (kept : Bool) × IsSeenAfter (with_talk talk) seen_before seen_after faults_before faults_after
    × (alive_after ≡ option_map (λ _. kept) seen_after) × IsExchange request place_before place_after result talk kept
