-- A signed request and its exchange make an attempt, of one talk.
use Rattle.std.proofs.Common.{◌≡◌, ◌≢◌, ◌≤◌, ◌∙◌, ◌++◌, ℕ, Bool, true, false, List, [], ◌∷◌, Option, Some, None, refl, ap, sym, subst, inl, inr}
use Rattle.shared_lemmas.proofs.Clashes.{none_is_some, some_is}
use Rattle.std.specs.Option.{option_map}
use Rattle.std.specs.Prelude.{IfSome}
use Rattle.s3_model.specs.declared.answers.Class.{Class}
use Rattle.s3_model.specs.declared.answers.Class.TheVariants as class
use Rattle.s3_model.specs.declared.answers.Talked.{Talked}
use Rattle.s3_model.specs.declared.answers.Talked.TheVariants as talked
use Rattle.s3_model.specs.declared.answers.Why.{Why}
use Rattle.s3_model.specs.declared.requests.Ask.{Ask}
use Rattle.s3_model.specs.Lists.{Buffer}
use Rattle.s3_model.specs.Talks.{Talk, Note, Began, WireLog}
use Rattle.answer_grammar.specs.Answer.{Begins, IsOfTalk}
use Rattle.http_exchange.specs.Exchange as exchange
use Rattle.attempts.specs.declared.send.Attempted.TheVariants as attempted
use Rattle.attempts.specs.declared.send.Judged.{Judged}
use Rattle.attempts.specs.Attempts.{HasClass, IsGet, IsOfSomeTalk, IsOneTalk, IsToldOf, Makes, SignedRequest, TellsStatus}
use Rattle.job_terms.specs.Dispatches.{last_of}
use Rattle.job_terms.specs.Gains.{Gains}
use Rattle.attempts.specs.Steps.{IsAnsweredBy, IsJudged, IsSigned, exchange_of, status_of}
use Rattle.answer_classes.specs.Showing.{is_head}
use Rattle.attempts.proofs.ClassLemmas.{answered_within, has_class}
use Rattle.http_exchange.specs.Seen.{with_talk}
use Rattle.job_terms.proofs.GainLemmas.{gains_both, gains_step}
use Rattle.s3_outside.specs.Seen.{IsSeenAfter}

gains_talk : (P : List Talk → List Note → Type 0) (talk : Talk) (before after : Option WireLog) (b a : ℕ) → IsSeenAfter (with_talk talk) before after b a
    → P (talk ∷ []) (Began ∷ []) → Gains before after P
gains_talk P talk = gains_step P (with_talk talk) (talk ∷ []) (Began ∷ []) (λ log. (refl, refl))

module _ (r : SignedRequest) (keep : Bool) (head : List ℕ) (shown : Class) where
  one_talk : (first last : Buffer) (result : Talked) (talk : Talk) (kept : Bool) (talks : List Talk) (notes : List Note) → IfSome r.limit (λ most. IsGet r.asked × (most ≤ first.room))
      → IsSigned r.endpoint r.keys r.asked r.body head talks notes → exchange.IsExchange (exchange_of r keep head) first last result talk kept → exchange.IfBroken result IsOfTalk
      → IsJudged r.asked result shown → IsOneTalk r shown last.bytes (talks ++ talk ∷ []) (notes ++ Began ∷ [])
  one_talk first last result talk kept talks notes has_room signed e own judged = record {
    talk = talk;
    moment = signed.moment;
    one_talk = ap (λ (xs : List Talk). xs ++ talk ∷ []) signed.no_talk;
    noted = ap (λ (xs : List Note). xs ++ Began ∷ []) signed.noted;
    to_host = e.host;
    to_port = e.port;
    beginning = subst (Begins talk.sent) signed.signed e.sent;
    whole = λ well. subst (λ (text : List ℕ). talk.sent ≡ text) signed.signed (e.whole (λ is. well (e.failed.0 is)));
    has_class = has_class r keep head first last talk kept result shown has_room own e judged;
  }

  -- the status of an answer is that of its talk
  tells : (first last : Buffer) (result : Talked) (talk : Talk) (kept : Bool) (talks : List Talk) → talks ≡ []
      → exchange.IsExchange (exchange_of r keep head) first last result talk kept → TellsStatus r (status_of result) (talks ++ talk ∷ [])
  tells first last (talked.Broken reason) talk kept talks none e = tt
  tells first last (talked.Answered answered) talk kept talks none e = (
    talk,
    ap (λ (ts : List Talk). last_of (ts ++ talk ∷ [])) none,
    (answered, e.answered.body, answered_within (is_head r.asked) r.limit talk answered e.answered.body e.answered.behind e.answered.is_answer, refl),
  )

  of_some_talk : (talk : Talk) (place : List ℕ) → HasClass r talk shown place → IsOfSomeTalk r.asked r.limit shown place
  of_some_talk talk place (inl memory) = inl memory
  of_some_talk talk place (inr h) = inr (talk, h.0, h.1, h.2)

module _ (r : SignedRequest) (keep : Bool) (head : List ℕ) (to : Judged) where
  -- a request that was signed, sent and judged was attempted
  pub attempted_once : (first second third : Option WireLog) (alive : Option Bool) (b a : ℕ) (before after : Buffer) → IfSome r.limit (λ most. IsGet r.asked × (most ≤ before.room))
      → Gains first second (IsSigned r.endpoint r.keys r.asked r.body head) → IsAnsweredBy r keep head second third alive b a before after to
      → Gains first third (Makes r (attempted.Made to) after.bytes)
  attempted_once first second third alive b a before after has_room signed answered =
      let (talk, kept, tells_talk, lives, e) = answered.exchanged in
      gains_both (IsSigned r.endpoint r.keys r.asked r.body head) (λ talks notes. (talks ≡ talk ∷ []) × (notes ≡ Began ∷ [])) (Makes r (attempted.Made to) after.bytes)
      (λ talks more notes others is_signed one.
      let whole = one_talk r keep head to.class before after answered.result talk kept talks notes has_room is_signed e answered.own answered.judged in
      let status = subst (λ (s : Option ℕ). TellsStatus r s (talks ++ talk ∷ [])) (sym answered.told) (tells r keep head to.class before after answered.result talk kept talks is_signed.no_talk e) in
      rw (one.0, one.1) (whole, status))
      first second third signed (gains_talk (λ talks notes. (talks ≡ talk ∷ []) × (notes ≡ Began ∷ [])) talk second third b a tells_talk (refl, refl))

  -- the class of a request that was sent and judged is that of a talk, whatever the wire shows
  pub classed : (before after : Buffer) (first last : Option WireLog) (alive : Option Bool) (b a : ℕ) → IfSome r.limit (λ most. IsGet r.asked × (most ≤ before.room))
      → IsAnsweredBy r keep head first last alive b a before after to → IsOfSomeTalk r.asked r.limit to.class after.bytes
  classed before after first last alive b a has_room answered =
      let (talk, kept, tells_talk, lives, e) = answered.exchanged in
      of_some_talk r keep head to.class talk after.bytes (has_class r keep head before after talk kept answered.result to.class has_room answered.own e answered.judged)

-- ---- the connection

false_is_true : false ≡ true → ⊥
false_is_true e = cc

-- one that was not to be kept is not
not_kept : (request : exchange.RawRequest) (first last : Buffer) (result : Talked) (talk : Talk) (kept : Bool) → request.keep ≡ false → exchange.IsExchange request first last result talk kept → kept ≡ false
not_kept request first last (talked.Answered answered) talk kept is e = e.answered.keeps ∙ ap (λ (keep : Bool). exchange.is_reusable keep answered e.answered.behind) is
not_kept request first last (talked.Broken reason) talk kept is e = e.broken.ends

not_alive : (kept : Bool) (seen : Option WireLog) (alive : Option Bool) → kept ≡ false → alive ≡ option_map (λ _. kept) seen → alive ≢ Some true
not_alive kept None alive is lives at = none_is_some true (sym lives ∙ at)
not_alive kept (Some log) alive is lives at = false_is_true (sym is ∙ some_is _ _ (sym lives ∙ at))

pub closed : (r : SignedRequest) (keep : Bool) (head : List ℕ) (to : Judged) (first last : Option WireLog) (alive : Option Bool) (b a : ℕ) (before after : Buffer)
    → IsAnsweredBy r keep head first last alive b a before after to → keep ≡ false → alive ≢ Some true
closed r keep head to first last alive b a before after answered is =
    let (talk, kept, tells_talk, lives, e) = answered.exchanged in
    not_alive kept last alive (not_kept (exchange_of r keep head) before after answered.result talk kept is e) lives

-- ---- the status of a refusal

refused_is_not : (code message : List ℕ) (reason : Why) → class.Refusal code message ≡ class.Uncertain reason → ⊥
refused_is_not code message reason e = cc

pub told_of : (asked : Ask) (result : Talked) (shown : Class) → IsJudged asked result shown → IsToldOf shown (status_of result)
told_of asked (talked.Answered answered) (class.Refusal code message) judged = refl
told_of asked (talked.Broken reason) (class.Refusal code message) judged = absurd (refused_is_not code message reason judged.broken)
told_of asked result (class.Success said) judged = tt
told_of asked result (class.Uncertain reason) judged = tt
