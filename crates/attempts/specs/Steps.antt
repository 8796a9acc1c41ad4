-- The two steps of an attempt: the head is signed, and one exchange is made and judged.
use Rattle.std.specs.Prelude.{◌≡◌, ◌≤◌, ◌++◌, ℕ, Bool, List, [], ◌∷◌, Option, Some, None}
use Rattle.s3_model.specs.declared.requests.Ask.{Ask}
use Rattle.s3_model.specs.declared.answers.Class.{Class}
use Rattle.s3_model.specs.declared.answers.Class.TheVariants as class
use Rattle.s3_model.specs.declared.answers.Talked.{Talked}
use Rattle.s3_model.specs.declared.answers.Talked.TheVariants as talked
use Rattle.s3_model.specs.declared.places.Endpoint.{Endpoint}
use Rattle.s3_model.specs.declared.settings.Keys.{Keys}
use Rattle.s3_model.specs.Lists.{Buffer}
use Rattle.s3_model.specs.Talks.{Talk, Note, Moment, WireLog}
use Rattle.answer_grammar.specs.Answer.{IsOfTalk}
use Rattle.answer_classes.specs.Classifying.{IfAnswered, IfBroken, IsClassed}
use Rattle.answer_classes.specs.Showing.{is_head}
use Rattle.http_exchange.specs.Exchange as exchange
use Rattle.attempts.specs.declared.send.Judged.{Judged}
use Rattle.attempts.specs.Attempts.{SignedRequest, text_of}

-- A moment was noted, and the head is signed at it.
pub record IsSigned (endpoint : Endpoint) (keys : Keys) (asked : Ask) (body head : List ℕ) (talks : List Talk)
    (notes : List Note) : Type 0 where
  pub moment : ℕ
  pub no_talk : talks ≡ []
  pub noted : notes ≡ Moment moment ∷ []
  pub signed : head ++ body ≡ text_of endpoint keys asked body moment

-- the exchange for a request with that head
abbrev pub exchange_of : SignedRequest → (keep : Bool) → (head : List ℕ) → exchange.RawRequest
exchange_of r keep head = record {
  endpoint = r.endpoint;
  bytes = head ++ r.body;
  head_only = is_head r.asked;
  limit = r.limit;
  keep = keep;
}

-- the status of what came back, if it is an answer
abbrev pub status_of : Talked → Option ℕ
status_of (talked.Answered answered) = Some answered.status
status_of (talked.Broken reason) = None

-- the class is that of what came back, unless memory ran out
pub record IsJudged (asked : Ask) (result : Talked) (shown : Class) : Type 0 where
  pub broken : IfBroken result (λ reason. shown ≡ class.Uncertain reason)
  pub classed : IfAnswered result (λ answered. 200 ≤ answered.status → IsClassed asked answered shown)

-- One exchange was made for a request with that head, and judged.
pub record IsAnsweredBy (r : SignedRequest) (keep : Bool) (head : List ℕ) (before after : Option WireLog)
    (alive : Option Bool) (faults_before faults_after : ℕ) (first last : Buffer) (to : Judged) : Type 0 where
  pub result : Talked
  pub own : exchange.IfBroken result IsOfTalk
  pub exchanged :
      exchange.Exchanges (exchange_of r keep head) before after alive faults_before faults_after first last result
  pub judged : IsJudged r.asked result to.class
  pub told : to.status ≡ status_of result
