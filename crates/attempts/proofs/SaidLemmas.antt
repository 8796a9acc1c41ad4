-- What one attempt shows of a dispatched request: that it says the request, and how it is marked.
use Rattle.std.proofs.Common.{◌≡◌, ◌⊎◌, ℕ, List, Option, refl, sym, ap, subst, inl, inr}
use Rattle.std.specs.Prelude.{unwrap_or}
use Rattle.s3_model.specs.declared.answers.Class.{Class}
use Rattle.s3_model.specs.declared.answers.Class.TheVariants as class
use Rattle.s3_model.specs.declared.answers.Reply.{Reply}
use Rattle.s3_model.specs.declared.answers.Why.{Why}
use Rattle.s3_model.specs.declared.answers.Why.TheVariants as why
use Rattle.s3_model.specs.declared.places.Endpoint.{Endpoint}
use Rattle.s3_model.specs.declared.settings.Keys.{Keys}
use Rattle.s3_model.specs.declared.tries.Mark.{Mark}
use Rattle.s3_model.specs.declared.tries.Mark.TheVariants as mark
use Rattle.s3_model.specs.Talks.{Talk, Note, Failed}
use Rattle.answer_classes.specs.Showing.{Shows}
use Rattle.job_terms.specs.Attempts.{IsPrefixOf, IsSaid, SaysAll, mark_of}
use Rattle.job_terms.specs.Dispatches.{Dispatched}
use Rattle.attempts.specs.Attempts.{HasClass, IsOneTalk, SignedRequest, most_of, text_at, text_of}

success_certain : (said : Reply) (reason : Why) → class.Success said ≡ class.Uncertain reason → ⊥
success_certain said reason e = cc

refusal_certain : (code message : List ℕ) (reason : Why) → class.Refusal code message ≡ class.Uncertain reason → ⊥
refusal_certain code message reason e = cc

module _ (r : SignedRequest) (talk : Talk) where
  -- a talk with an answer had no failed call
  answered_well : (shown : Class) (bytes : List ℕ) → Shows r.asked (most_of r) talk shown bytes → ((reason : Why) → shown ≡ class.Uncertain reason → ⊥) → talk.ending ≡ Failed → ⊥
  answered_well shown bytes (inl h) certain failed = h.1.1.no_fault failed
  answered_well shown bytes (inr h) certain failed = certain h.0 h.2

  module _ (moment : ℕ) (whole : (talk.ending ≡ Failed → ⊥) → talk.sent ≡ text_at r moment) (front : IsPrefixOf talk.sent (text_at r moment)) where
    says : (shown : Class) (bytes : List ℕ) → Shows r.asked (most_of r) talk shown bytes
        → SaysAll Shows (text_of r.endpoint r.keys) r.endpoint.host r.endpoint.port shown talk.sent (text_at r moment)
    says (class.Success said) bytes h = whole (answered_well (class.Success said) bytes h (success_certain said))
    says (class.Refusal code message) bytes h = whole (answered_well (class.Refusal code message) bytes h (refusal_certain code message))
    says (class.Uncertain reason) bytes h = front

module _ (endpoint : Endpoint) (keys : Keys) (c : Dispatched) (limit : Option ℕ) (is_limit : unwrap_or limit 8388608 ≡ c.limit) (shown : Class) (place : List ℕ) where
  abbrev request : SignedRequest
  request = record { endpoint = endpoint; keys = keys; asked = c.ask; body = c.body; limit = limit }

  -- the talk of an attempt says the dispatched request
  pub said : (number : ℕ) (of_mark : Mark) (talks : List Talk) (notes : List Note) → (t : IsOneTalk request shown place talks notes)
      → IsSaid Shows (text_of endpoint keys) endpoint.host endpoint.port (record { of = c; number = number; attempt = record { mark = of_mark; talk = t.talk } }) t.moment
  said number of_mark talks notes t =
      let front : IsPrefixOf t.talk.sent (text_at request t.moment) = (t.beginning.0, sym t.beginning.1) in
      record {
        to_host = t.to_host;
        to_port = t.to_port;
        text = λ told bytes h. says request t.talk t.moment t.whole front told bytes (subst (λ (most : ℕ). Shows c.ask most t.talk told bytes) (sym is_limit) h);
        beginning = front;
      }

  -- its mark is that of the class that the talk shows, or memory ran out
  pub marked : (IsWanting : Type 0) (talk : Talk) → (shown ≡ class.Uncertain why.Memory → IsWanting) → HasClass request talk shown place
      → ((told : Class) × (bytes : List ℕ) × Shows c.ask c.limit talk told bytes × (mark_of shown ≡ mark_of told) × (told ≡ class.Uncertain why.Memory → IsWanting))
      ⊎ ((mark_of shown ≡ mark.Uncertain) × IsWanting)
  marked IsWanting talk wanting (inl memory) = inr (ap mark_of memory, wanting memory)
  marked IsWanting talk wanting (inr h) =
      inl (shown, h.0, subst (λ (most : ℕ). Shows c.ask most talk shown h.0) is_limit h.1, refl, wanting)
