-- What each step of a talk does to the wire's log.
use Rattle.std.specs.Prelude.{◌≡◌, ◌≢◌, ◌⊎◌, ℕ, ◌+◌, ◌<◌, ◌≤◌, ◌&&◌, Bool, true, false, List, [], ◌++◌, length}
use Rattle.std.specs.Prelude.{min, max, take, drop, Option, option_map, Result, Ok, Err, OnOk, OnErr, IfErr, slice_range}
use Rattle.s3_model.specs.Counts.{Rose}
use Rattle.s3_model.specs.Talks.{Talk, Ending, Failed, Closed, Finished, WireLog}
use Rattle.s3_model.specs.Lists.{Buffer}
use Rattle.s3_model.specs.declared.answers.Answered.{Answered}
use Rattle.s3_model.specs.declared.answers.Talked.{Talked}
use Rattle.s3_model.specs.declared.answers.Talked.TheVariants as talked
use Rattle.s3_model.specs.declared.answers.Why.{Why}
use Rattle.s3_model.specs.declared.answers.Why.TheVariants as why
use Rattle.s3_model.specs.declared.places.Endpoint.{Endpoint}
use Rattle.s3_outside.specs.Wire.{sends, fails, last_talk}
use Rattle.s3_outside.specs.Seen.{IsSeenAfter}
use Rattle.answer_grammar.specs.declared.framing.Framing.{Framing}
use Rattle.answer_grammar.specs.declared.framing.Framing.TheVariants as framing
use Rattle.answer_grammar.specs.declared.head.Head.{Head}
use Rattle.answer_grammar.specs.Answer.{Begins, HasBody, IsAnswer, Delivers}
use Rattle.answer_grammar.specs.Breaks.{BeginsHead, BreaksBody, IsBreak}
use Rattle.answer_grammar.specs.Chunks.{BreaksOff, CannotBeContent, BeginsContent}
use Rattle.answer_grammar.specs.Parts.{IsHeadAt, RefusesHead}
use Rattle.httparse.specs.Ascii.{crlf_bytes}
use Rattle.http_exchange.specs.Exchange.{BeginsByLine, InPieces, IsOpenByLine, LacksLineEnd}
use Rattle.http_exchange.specs.Seen.{with_talk, hears}

-- the count of faults does not fall, and WireFailed comes only where it rose
pub record HasWireCause {T : Type 0} (before now : ℕ) (result : Result T Why) : Type 0 where
  pub later : before ≤ now
  pub failed : IfErr result (λ reason. reason ≡ why.WireFailed → Rose before now)

-- ---- the request

-- all bytes are sent, or some first of them and then a call failed
abbrev pub Sends : {E : Type 0} → List ℕ → Option WireLog → Option WireLog → Result Unit E → Type 0
Sends bytes before after (Ok _) = after ≡ option_map (last_talk (sends bytes)) before
Sends bytes before after (Err _) =
    (count : ℕ) × (after ≡ option_map (last_talk (λ talk. fails (sends (take count bytes) talk))) before)

-- a talk that so far has only the request
pub record IsAsked {T E : Type 0} (endpoint : Endpoint) (bytes : List ℕ) (result : Result T E)
    (talk : Talk) : Type 0 where
  pub host : talk.host ≡ endpoint.host
  pub port : talk.port ≡ endpoint.port
  pub sent : Begins talk.sent bytes
  pub got : talk.got ≡ []
  pub whole : OnOk result ((talk.sent ≡ bytes) × (talk.ending ≡ Finished))
  pub failed : OnErr result (talk.ending ≡ Failed)

abbrev pub Asks : {T E : Type 0} → Endpoint → List ℕ → Option WireLog → Option WireLog
    → (faults_before faults_after : ℕ) → Result T E → Type 0
Asks endpoint bytes before after faults_before faults_after result =
    (talk : Talk) × IsSeenAfter (with_talk talk) before after faults_before faults_after
    × IsAsked endpoint bytes result talk

-- ---- what is heard

-- the talk goes on by these bytes and this ending, of which P holds
abbrev pub Hears : Option WireLog → Option WireLog → (List ℕ → Ending → Type 0) → Type 0
Hears before after P =
    (got : List ℕ) × (ending : Ending) × (after ≡ option_map (last_talk (hears got ending)) before) × P got ending

-- bytes grew by what came, at most so many, and none at the end of the connection
abbrev pub TakesBytes : ℕ → List ℕ → List ℕ → Result ℕ Why → List ℕ → Ending → Type 0
TakesBytes most before after (Ok count) got ending =
    (after ≡ before ++ got) × (length got ≡ count) × (count ≤ most) × (count ≡ 0 → ending ≡ Closed)
    × (0 < count → ending ≡ Finished)
TakesBytes most before after (Err reason) got ending = (got ≡ []) × (reason ≡ why.WireFailed) × (ending ≡ Failed)

-- the unread bytes grew by a piece
abbrev pub TakesPiece : List ℕ → List ℕ → Result ℕ Why → List ℕ → Ending → Type 0
TakesPiece before after result got ending = TakesBytes 16_384 before after result got ending

-- a body that misses so many bytes grew by what came of them; what came behind them is unread
abbrev pub TakesMore : ℕ → (after body_before body_after : List ℕ) → Result ℕ Why → List ℕ → Ending → Type 0
TakesMore missing after body_before body_after (Ok count) got ending =
    (content : List ℕ) × (got ≡ content ++ after) × (body_after ≡ body_before ++ content) × (length got ≡ count)
    × (length content ≡ min count missing) × (count ≤ max missing 16_384) × (count ≡ 0 → ending ≡ Closed)
    × (0 < count → ending ≡ Finished)
TakesMore missing after body_before body_after (Err reason) got ending =
    (got ≡ []) × (reason ≡ why.WireFailed) × (ending ≡ Failed)

-- the bytes at the front of a buffer, behind which so many were taken
abbrev pub filled : {E : Type 0} → List ℕ → ℕ → Result ℕ E → List ℕ
filled buffer kept (Ok count) = slice_range buffer 0 (kept + count)
filled buffer kept (Err fault) = []

-- a call failed, or the bytes that stood there and those that came break off
abbrev pub FailsOr : (Ending → Why → Type 0) → Ending → Why → Type 0
FailsOr P ending reason = ((reason ≡ why.WireFailed) × (ending ≡ Failed)) ⊎ ((ending ≢ Failed) × P ending reason)

-- ---- the head

-- these bytes and more that end no line, fewer than a head may have
abbrev pub IsBegun : List ℕ → List ℕ → Type 0
IsBegun before bytes = (part : List ℕ) × (bytes ≡ before ++ part) × LacksLineEnd part × (length bytes < 65_536)

-- lines were added: at most one piece has the end of one
abbrev pub TakesLines : List ℕ → List ℕ → Result Bool Why → List ℕ → Ending → Type 0
TakesLines before after (Ok true) got ending =
    (after ≡ before ++ got) × LacksLineEnd got × (length after < 65_536) × (ending ≡ Closed)
    × InPieces (IsBegun before) before got ending
TakesLines before after (Ok false) got ending =
    (after ≡ before ++ got) × (0 < length got) × (ending ≡ Finished) × InPieces (IsBegun before) before got Finished
TakesLines before after (Err reason) got ending =
    (reason ≡ why.WireFailed) × (ending ≡ Failed) × InPieces (IsBegun before) before got ending

-- why no head was read, from the first bytes that it may stand in
abbrev pub NoHead : Bool → List ℕ → Ending → Why → Type 0
NoHead head_only got ending reason =
    RefusesHead head_only (take 65_536 got) reason
    ⊎ ((65_536 ≤ length got) × BeginsHead (take 65_536 got) × (reason ≡ why.HeadTooLong))
    ⊎ ((length got < 65_536) × BeginsHead got × (ending ≡ Closed) × (reason ≡ why.EndedEarly))

-- why the bytes that came before the connection closed have no head: it is refused, or not all there
abbrev pub IsWhyNoHead : Bool → List ℕ → Why → Type 0
IsWhyNoHead head_only bytes reason = RefusesHead head_only bytes reason ⊎ (BeginsHead bytes × (reason ≡ why.EndedEarly))

-- a head was read, and the bytes behind it are left
abbrev pub HeadComes : Bool → List ℕ → Result Head Why → List ℕ → Ending → Type 0
HeadComes head_only after (Ok found) got ending = (window : List ℕ) × (more : List ℕ) × (got ≡ window ++ more)
    × IsHeadAt head_only window found × (after ≡ drop found.len window ++ more) × (ending ≡ Finished)
HeadComes head_only after (Err reason) got ending = FailsOr (NoHead head_only got) ending reason

pub record TakesHead (head_only : Bool) (after : List ℕ) (result : Result Head Why) (got : List ℕ)
    (ending : Ending) : Type 0 where
  pub pieces : InPieces BeginsByLine [] got ending
  pub comes : HeadComes head_only after result got ending

-- ---- the body

-- a form was read, and the bytes behind it are left; or a call failed, or the bytes break off
abbrev pub FormComes : (Has : List ℕ → ℕ → List ℕ → Type 0) → (CannotBe Begins : List ℕ → Type 0)
    → (before after : List ℕ) → Result ℕ Why → List ℕ → Ending → Type 0
FormComes Has CannotBe Begins before after (Ok value) got ending = Has (before ++ got) value after × (ending ≡ Finished)
FormComes Has CannotBe Begins before after (Err reason) got ending =
    FailsOr (BreaksOff (CannotBe (before ++ got)) (Begins (before ++ got))) ending reason

pub record TakesForm (Has : List ℕ → ℕ → List ℕ → Type 0) (CannotBe Begins : List ℕ → Type 0) (before after : List ℕ)
    (result : Result ℕ Why) (got : List ℕ) (ending : Ending) : Type 0 where
  pub pieces : InPieces Begins before got ending
  pub comes : FormComes Has CannotBe Begins before after result got ending

-- so many bytes were moved to the body
abbrev pub ContentComes : ℕ → (before after : List ℕ) → (body_before body_after : List ℕ) → Result Unit Why → List ℕ
    → Ending → Type 0
ContentComes size before after body_before body_after (Ok _) got ending =
    (content : List ℕ) × (length content ≡ size) × (before ++ got ≡ content ++ after)
    × (body_after ≡ body_before ++ content) × (ending ≡ Finished)
ContentComes size before after body_before body_after (Err reason) got ending =
    FailsOr (λ ending reason. (length (before ++ got) < size) × (ending ≡ Closed) × (reason ≡ why.EndedEarly)) ending
    reason

pub record TakesContent (size : ℕ) (before after body_before body_after : List ℕ) (result : Result Unit Why)
    (got : List ℕ) (ending : Ending) : Type 0 where
  pub pieces : InPieces (λ bytes. length bytes < size) before got ending
  pub comes : ContentComes size before after body_before body_after result got ending

-- content and its CRLF
abbrev pub ChunkComes : ℕ → (before after : List ℕ) → (body_before body_after : List ℕ) → Result Unit Why → List ℕ
    → Ending → Type 0
ChunkComes size before after body_before body_after (Ok _) got ending =
    (content : List ℕ) × (length content ≡ size) × (before ++ got ≡ content ++ (crlf_bytes ++ after))
    × (body_after ≡ body_before ++ content) × (ending ≡ Finished)
ChunkComes size before after body_before body_after (Err reason) got ending =
    FailsOr (BreaksOff (CannotBeContent size (before ++ got)) (BeginsContent size (before ++ got))) ending reason

pub record TakesChunk (size : ℕ) (before after body_before body_after : List ℕ) (result : Result Unit Why)
    (got : List ℕ) (ending : Ending) : Type 0 where
  pub pieces : InPieces (BeginsContent size) before got ending
  pub comes : ChunkComes size before after body_before body_after result got ending

-- how many bytes a body within the limit has at most
abbrev pub body_room : Framing → ℕ → ℕ
body_room framing.NoBody limit = 0
body_room (framing.Length n) limit = min n limit
body_room framing.Chunked limit = limit
body_room framing.ToClose limit = limit

-- the bytes behind the head begin a body, or are one that the connection's end may end
abbrev pub IsOpenBody : Framing → ℕ → List ℕ → Type 0
IsOpenBody framed limit rest =
    BreaksBody framed limit rest Closed why.EndedEarly ⊎ ((framed ≡ framing.ToClose) × (length rest ≤ limit))

abbrev pub BodyComes : Framing → ℕ → (before after body : List ℕ) → Result Unit Why → List ℕ → Ending → Type 0
BodyComes framed limit before after body (Ok _) got ending =
    HasBody framed (before ++ got) ending body after × (length body ≤ limit) × (ending ≢ Failed)
BodyComes framed limit before after body (Err reason) got ending =
    FailsOr (BreaksBody framed limit (before ++ got)) ending reason

pub record TakesBody (framed : Framing) (limit : ℕ) (before after body : List ℕ) (result : Result Unit Why)
    (got : List ℕ) (ending : Ending) : Type 0 where
  pub pieces : InPieces (IsOpenBody framed limit) before got ending
  pub comes : BodyComes framed limit before after body result got ending

-- ---- the answer

-- an answer, with its body where it belongs and these bytes behind it, or a break
abbrev pub AnswerComes : Bool → Option ℕ → (behind : List ℕ) → Buffer → Buffer → Result Answered Why → List ℕ → Ending
    → Type 0
AnswerComes head_only limit behind before after (Ok answered) got ending =
    (body : List ℕ) × IsAnswer head_only limit got ending answered body behind
    × Delivers limit answered body before after
AnswerComes head_only limit behind before after (Err reason) got ending =
    ((reason ≡ why.Memory) × (ending ≢ Failed)) ⊎ IsBreak head_only limit got ending reason

pub record Receives (head_only : Bool) (limit : Option ℕ) (behind : List ℕ) (before after : Buffer)
    (result : Result Answered Why) (got : List ℕ) (ending : Ending) : Type 0 where
  pub pieces : InPieces (IsOpenByLine head_only limit) [] got ending
  pub comes : AnswerComes head_only limit behind before after result got ending

-- the head's answer with this body, which is there and which the answer itself does or does not hold
abbrev pub AnswerFilled : Head → ℕ → (before after there held : List ℕ) → Result Answered Why → List ℕ → Ending → Type 0
AnswerFilled head most before after there held (Ok answered) got ending =
    (answered ≡ record head.answer { taken = length there; body = answered.body }) × (answered.body.bytes ≡ held)
    × HasBody head.framing (before ++ got) ending there after × (length there ≤ most) × (ending ≢ Failed)
AnswerFilled head most before after there held (Err reason) got ending =
    ((reason ≡ why.Memory) × (ending ≢ Failed)) ⊎ FailsOr (BreaksBody head.framing most (before ++ got)) ending reason

pub record FillsPlace (head : Head) (most : ℕ) (before after there : List ℕ) (result : Result Answered Why)
    (got : List ℕ) (ending : Ending) : Type 0 where
  pub pieces : InPieces (IsOpenBody head.framing most) before got ending
  pub comes : AnswerFilled head most before after there head.answer.body.bytes result got ending

abbrev pub held_body : Result Answered Why → List ℕ
held_body (Ok answered) = answered.body.bytes
held_body (Err reason) = []

pub record FillsAnswer (head : Head) (most : ℕ) (before after : List ℕ) (result : Result Answered Why) (got : List ℕ)
    (ending : Ending) : Type 0 where
  pub pieces : InPieces (IsOpenBody head.framing most) before got ending
  pub comes : AnswerFilled head most before after (held_body result) (held_body result) result got ending

-- ---- the end

abbrev pub talked_of : Result Answered Why → Talked
talked_of (Ok answered) = talked.Answered answered
talked_of (Err reason) = talked.Broken reason

-- the connection is kept where that was asked for, the answer allows it, and it is entire
abbrev pub ends_kept : Bool → Bool → Result Answered Why → Bool
ends_kept keep is_entire (Ok answered) = keep && (answered.keep && is_entire)
ends_kept keep is_entire (Err reason) = false
