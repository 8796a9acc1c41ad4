-- One attempt of a request over a wire: what the wire gains, and what the talk comes to.
use Rattle.std.specs.Prelude.{◌≡◌, ◌≢◌, ◌⊎◌, ◌++◌, ℕ, List, [], ◌∷◌, Option, Some, None, unwrap_or, IsSome}
use Rattle.s3_model.specs.declared.requests.Ask.{Ask}
use Rattle.s3_model.specs.declared.requests.Ask.TheVariants as ask
use Rattle.s3_model.specs.declared.answers.Class.{Class}
use Rattle.s3_model.specs.declared.answers.Class.TheVariants as class
use Rattle.s3_model.specs.declared.answers.Why.TheVariants as why
use Rattle.s3_model.specs.declared.places.Endpoint.{Endpoint}
use Rattle.s3_model.specs.declared.settings.Keys.{Keys}
use Rattle.s3_model.specs.declared.tries.Mark.{Mark}
use Rattle.s3_model.specs.Talks.{Talk, Note, Moment, Began, Failed}
use Rattle.s3_requests.specs.Requests.{request_text}
use Rattle.answer_grammar.specs.Answer.{Begins}
use Rattle.answer_classes.specs.Showing.{HasStatus, Shows}
use Rattle.job_terms.specs.Attempts.{mark_of}
use Rattle.job_terms.specs.Dispatches.{last_of}
use Rattle.attempts.specs.declared.send.Attempted.{Attempted}
use Rattle.attempts.specs.declared.send.Attempted.TheVariants as attempted
use Rattle.attempts.specs.declared.send.Judged.{Judged}

-- ---- the request

-- where a request goes, the keys that sign it, what it asks, its body, and the limit of the body of its 2xx answer
pub record SignedRequest : Type 0 where
  pub endpoint : Endpoint
  pub keys : Keys
  pub asked : Ask
  pub body : List ℕ
  pub limit : Option ℕ

abbrev pub signed_request : Endpoint → Keys → Ask → (body : List ℕ) → (limit : Option ℕ) → SignedRequest
signed_request endpoint keys asked body limit =
    record { endpoint = endpoint; keys = keys; asked = asked; body = body; limit = limit }

-- the text of a request to this service, signed with these keys at that moment
abbrev pub text_of : Endpoint → Keys → Ask → (body : List ℕ) → (moment : ℕ) → List ℕ
text_of endpoint keys asked body moment = request_text asked endpoint keys moment body

abbrev pub text_at : SignedRequest → (moment : ℕ) → List ℕ
text_at r moment = text_of r.endpoint r.keys r.asked r.body moment

-- the greatest length of the body of a 2xx answer, in bytes
abbrev pub most_of : SignedRequest → ℕ
most_of r = unwrap_or r.limit 8_388_608

abbrev pub IsGet : Ask → Type 0
IsGet (ask.Get bucket key etag range) = Unit {0}
IsGet asked = ⊥

-- ---- the class

-- Under a limit the body of a success stands in its place.
abbrev pub IsInPlace : Option ℕ → Class → (body place : List ℕ) → Type 0
IsInPlace (Some limit) (class.Success said) body place = place ≡ body
IsInPlace limit shown body place = Unit {0}

-- The talk shows this class, or memory ran out.
abbrev pub HasClass : SignedRequest → Talk → Class → (place : List ℕ) → Type 0
HasClass r talk shown place =
    (shown ≡ class.Uncertain why.Memory)
    ⊎ ((body : List ℕ) × Shows r.asked (most_of r) talk shown body × IsInPlace r.limit shown body place)

-- the class is that of a talk, also where the wire shows none
abbrev pub IsOfSomeTalk : Ask → (limit : Option ℕ) → Class → (place : List ℕ) → Type 0
IsOfSomeTalk asked limit shown place =
    (shown ≡ class.Uncertain why.Memory)
    ⊎ ((talk : Talk) × (body : List ℕ) × Shows asked (unwrap_or limit 8_388_608) talk shown body
    × IsInPlace limit shown body place)

-- ---- the attempt

-- One talk, with the endpoint. It says the request, signed at the moment that was noted before it, or begins to say it
-- and then a call of the wire failed.
pub record IsOneTalk (r : SignedRequest) (shown : Class) (place : List ℕ) (talks : List Talk) (notes : List Note)
    : Type 0 where
  pub talk : Talk
  pub moment : ℕ
  pub one_talk : talks ≡ talk ∷ []
  pub noted : notes ≡ Moment moment ∷ Began ∷ []
  pub to_host : talk.host ≡ r.endpoint.host
  pub to_port : talk.port ≡ r.endpoint.port
  pub beginning : Begins talk.sent (text_at r moment)
  pub whole : talk.ending ≢ Failed → talk.sent ≡ text_at r moment
  pub has_class : HasClass r talk shown place

-- no talk, and no note but a moment
pub record IsSilent (talks : List Talk) (notes : List Note) : Type 0 where
  pub no_talk : talks ≡ []
  pub idle : (notes ≡ []) ⊎ ((moment : ℕ) × (notes ≡ Moment moment ∷ []))

-- A status that is told is that of the last talk's answer.
abbrev pub TellsStatus : SignedRequest → Option ℕ → List Talk → Type 0
TellsStatus r None talks = Unit {0}
TellsStatus r (Some status) talks =
    (talk : Talk) × (last_of talks ≡ Some talk) × HasStatus r.asked (most_of r) talk status

-- what the wire gains by one attempt
abbrev pub Makes : SignedRequest → Attempted → (place : List ℕ) → List Talk → List Note → Type 0
Makes r attempted.Memory place talks notes = IsSilent talks notes
Makes r (attempted.Made judged) place talks notes =
    IsOneTalk r judged.class place talks notes × TellsStatus r judged.status talks

-- the marks of a job that was attempted once
abbrev pub tries_of : Attempted → List Mark
tries_of attempted.Memory = []
tries_of (attempted.Made judged) = mark_of judged.class ∷ []

-- P of what the talk came to, if one was made
abbrev pub IfMade : Attempted → (Judged → Type 0) → Type 0
IfMade attempted.Memory P = Unit {0}
IfMade (attempted.Made judged) P = P judged

-- a refusal is an answer, whose status is told
abbrev pub IsToldOf : Class → Option ℕ → Type 0
IsToldOf (class.Refusal code message) status = IsSome status
IsToldOf shown status = Unit {0}

abbrev pub HasStatusIfRefused : Judged → Type 0
HasStatusIfRefused judged = IsToldOf judged.class judged.status
