-- What a service that does what it may answers to a Get of an object that is there.
use Rattle.std.proofs.Common.{◌≡◌, ◌∙◌, ◌⊎◌, ℕ, List, Option, Some, None, refl, sym, ap, subst, inl, inr, length}
use Rattle.s3_model.specs.declared.answers.Class.TheVariants as class
use Rattle.s3_model.specs.declared.answers.Reply.{Reply}
use Rattle.s3_model.specs.declared.answers.Reply.TheVariants as reply
use Rattle.s3_model.specs.declared.requests.Ask.{Ask}
use Rattle.s3_model.specs.declared.requests.Ask.TheVariants as ask
use Rattle.s3_model.specs.declared.settings.Limits.{Limits}
use Rattle.s3_model.specs.Replies.{IsSameReply}
use Rattle.s3_service.specs.ServiceState.{State, Object}
use Rattle.s3_service.specs.Serves.{IsThere, LiesWithin, Succeeds, bytes_within}
use Rattle.run_promise.specs.Dispatches.{FitsAsk}
use Rattle.job_terms.specs.Dispatches.{Dispatched}
use Rattle.s3_service.specs.Willing.{HasRange, IsWholeObject}
use Rattle.shared_lemmas.proofs.Clashes.{some_is}
use Rattle.world_laws.proofs.Possible.{IsInVain}

-- the range lies in the content
abbrev pub IsInside : Option (ℕ × ℕ) → List ℕ → Type 0
IsInside None content = Unit {0}
IsInside (Some range) content = LiesWithin range content

pub get_possible : (limits : Limits) (t : State) (asked : Ask) (body bucket key etag : List ℕ) (range : Option (ℕ × ℕ)) (object : Object) → asked ≡ ask.Get bucket key etag range → IsThere t bucket key etag object
    → IsInside range object.bytes → IsInVain limits t asked body → ⊥
get_possible limits t asked body bucket key etag None object is there inside vain =
    let content = object.bytes in
    subst (λ (a : Ask). IsInVain limits t a body) is vain (reply.Got 200 None (length content)) content t (object, there, (refl, refl, refl), refl)
get_possible limits t asked body bucket key etag (Some range) object is there inside vain =
    let content = bytes_within range object.bytes in
    subst (λ (a : Ask). IsInVain limits t a body) is vain (reply.Got 206 (Some (range.0, range.1, length object.bytes)) (length content)) content t
    (object, there, (inside, inr (refl, refl, refl, refl)), refl)

-- the dispatch asks for this range of that content, by the size and the limit that it has
abbrev pub AsksFor : Dispatched → Option (ℕ × ℕ) → List ℕ → Type 0
AsksFor c None content = c.limit ≡ length content
AsksFor c (Some range) content = (c.size ≡ length content) × (c.limit ≡ length (bytes_within range content))

-- a success of the Get is what was asked for
pub get_fits : (limits : Limits) (old : State) (bucket key etag : List ℕ) (range : Option (ℕ × ℕ)) (body : List ℕ) (answered : Reply) (bytes : List ℕ) (new : State) → Succeeds limits old (ask.Get bucket key etag range) body answered bytes new
    → (HasRange (ask.Get bucket key etag range) → IsWholeObject answered → ⊥) → (object : Object) → IsThere old bucket key etag object → (c : Dispatched) → AsksFor c range object.bytes
    → FitsAsk c (ask.Get bucket key etag range) (class.Success answered)
get_fits limits old bucket key etag None body (reply.Got status told size) bytes new h willing object there c asks =
    let same : h.0 ≡ object = some_is h.0 object (sym h.1.held ∙ there.held) in
    (h.2.0, h.2.1 ∙ ap (λ (o : Object). length o.bytes) same ∙ sym asks)
get_fits limits old bucket key etag (Some range) body (reply.Got status told size) bytes new h willing object there c asks = by h.2.1
  where
    same : h.0 ≡ object
    same = some_is h.0 object (sym h.1.held ∙ there.held)

    by : ((status ≡ 200) × (size ≡ length h.0.bytes) × (bytes ≡ h.0.bytes)) ⊎ ((status ≡ 206) × (told ≡ Some (range.0, range.1, length h.0.bytes)) × (size ≡ length bytes) × (bytes ≡ bytes_within range h.0.bytes))
        → (status ≡ 206) × (told ≡ Some (range.0, range.1, c.size)) × (size ≡ c.limit)
    by (inl whole) = absurd (willing tt whole.0)
    by (inr part) = (
      part.0,
      part.1 ∙ ap (λ (o : Object). Some (range.0, range.1, length o.bytes)) same ∙ ap (λ (n : ℕ). Some (range.0, range.1, n)) (sym asks.0),
      part.2 ∙ ap length part.3 ∙ ap (λ (o : Object). length (bytes_within range o.bytes)) same ∙ sym asks.1,
    )
get_fits limits old bucket key etag range body answered bytes new h willing object there c asks = absurd h

-- the reply to a Get is one and the same
pub same_fits : (c : Dispatched) (bucket key etag : List ℕ) (range : Option (ℕ × ℕ)) (said served : Reply) → IsSameReply said served → FitsAsk c (ask.Get bucket key etag range) (class.Success served)
    → FitsAsk c (ask.Get bucket key etag range) (class.Success said)
same_fits c bucket key etag None (reply.Got status told size) served same fits = subst (λ (r : Reply). FitsAsk c (ask.Get bucket key etag None) (class.Success r)) (sym same) fits
same_fits c bucket key etag (Some range) (reply.Got status told size) served same fits = subst (λ (r : Reply). FitsAsk c (ask.Get bucket key etag (Some range)) (class.Success r)) (sym same) fits
same_fits c bucket key etag None said served same fits = tt
same_fits c bucket key etag (Some range) said served same fits = tt
