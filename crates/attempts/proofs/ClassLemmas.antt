-- The class that is answered is that of the talk.
use Rattle.std.proofs.Common.{◌≡◌, ◌∙◌, ◌≤◌, ◌<◌, ℕ, Bool, true, false, List, [], Option, Some, None, refl, sym, ap, subst, inl, inr, arith}
use Rattle.std.specs.Prelude.{unwrap_or, IfSome}
use Rattle.s3_model.specs.declared.requests.Ask.{Ask}
use Rattle.s3_model.specs.declared.requests.Ask.TheVariants as ask
use Rattle.s3_model.specs.declared.answers.Answered.{Answered}
use Rattle.s3_model.specs.declared.answers.Reply.{Reply}
use Rattle.s3_model.specs.declared.answers.Reply.TheVariants as reply
use Rattle.s3_model.specs.declared.answers.Talked.{Talked}
use Rattle.s3_model.specs.declared.answers.Talked.TheVariants as talked
use Rattle.s3_model.specs.declared.answers.Why.{Why}
use Rattle.s3_model.specs.declared.answers.Why.TheVariants as why
use Rattle.s3_model.specs.declared.answers.Class.{Class}
use Rattle.s3_model.specs.declared.answers.Class.TheVariants as class
use Rattle.s3_model.specs.Classes.{IsTwoHundred, Succeeded, succeeded, failed_late, failed_inside, unreadable, refused, busy, other}
use Rattle.s3_model.specs.Lists.{Buffer}
use Rattle.s3_model.specs.Talks.{Talk, Failed}
use Rattle.s3_model.specs.Talks as talks
use Rattle.answer_grammar.specs.Answer.{Delivers, HasAnswer, IsAnswer, IsOfTalk, is_success}
use Rattle.answer_grammar.specs.Breaks.{Breaks, in_head, in_lines, in_body, IsBreak}
use Rattle.answer_classes.specs.Showing.{HasClass, is_head}
use Rattle.answer_classes.specs.Classifying.{IsClassed}
use Rattle.answer_classes.specs.Documents.{ReadsError, ReadsReply}
use Rattle.http_exchange.specs.Exchange as exchange
use Rattle.attempts.specs.Attempts as attempt
use Rattle.attempts.specs.Attempts.{IsGet, IsInPlace, SignedRequest}
use Rattle.attempts.specs.Steps.{IsJudged, exchange_of}

-- ---- no limit is the greatest one

pub answered_within : (head_only : Bool) (limit : Option ℕ) (talk : Talk) (answered : Answered) (body behind : List ℕ)
    → IsAnswer head_only limit talk.got talk.ending answered body behind → HasAnswer head_only (Some (unwrap_or limit 8388608)) talk.got talk.ending answered body
answered_within head_only None talk answered body behind a =
    (behind, record { head = a.head; rest = a.rest; reads = a.reads; framed = a.framed; says = a.says; has_body = a.has_body; within = a.within; taken = a.taken; no_fault = a.no_fault })
answered_within head_only (Some limit) talk answered body behind a = (behind, a)

breaks_within : (head_only : Bool) (limit : Option ℕ) (got : List ℕ) (end : talks.Ending) (reason : Why)
    → Breaks head_only limit got end reason → Breaks head_only (Some (unwrap_or limit 8388608)) got end reason
breaks_within head_only None got end reason (in_head breaks) = in_head breaks
breaks_within head_only None got end reason (in_lines head rest reads none same) = in_lines head rest reads none same
breaks_within head_only None got end reason (in_body head rest length framed reads is breaks) = in_body head rest length framed reads is breaks
breaks_within head_only (Some limit) got end reason breaks = breaks

break_within : (head_only : Bool) (limit : Option ℕ) (got : List ℕ) (end : talks.Ending) (reason : Why)
    → IsBreak head_only limit got end reason → IsBreak head_only (Some (unwrap_or limit 8388608)) got end reason
break_within head_only limit got end reason (inl failed) = inl failed
break_within head_only limit got end reason (inr off) = inr (off.0, breaks_within head_only limit got end reason off.1)

-- ---- the body of a Get is no document

success_two_hundred : (status : ℕ) → is_success status ≡ true → IsTwoHundred status
success_two_hundred status e = (grind arith, grind arith)

two_hundred_success : (status : ℕ) → IsTwoHundred status → is_success status ≡ true
two_hundred_success status (least, most) = grind arith

get_says : (bucket key etag : List ℕ) (range : Option (ℕ × ℕ)) (answered : Answered) (document body : List ℕ) (said : Reply)
    → Succeeded ReadsError ReadsReply (ask.Get bucket key etag range) answered document said → Succeeded ReadsError ReadsReply (ask.Get bucket key etag range) answered body said
get_says bucket key etag range answered document body (reply.Got status told length) reads = reads
get_says bucket key etag range answered document body said reads = absurd reads

get_class_in : (bucket key etag : List ℕ) (range : Option (ℕ × ℕ)) (answered : Answered) (document body : List ℕ) (shown : Class) → 200 ≤ answered.status → answered.status < 300
    → HasClass (ask.Get bucket key etag range) answered document shown → HasClass (ask.Get bucket key etag range) answered body shown
get_class_in bucket key etag range answered document body shown least most (succeeded said status reads) =
    succeeded said status (get_says bucket key etag range answered document body said reads)
get_class_in bucket key etag range answered document body shown least most (failed_late code message status late named) = absurd late.0
get_class_in bucket key etag range answered document body shown least most (failed_inside message status late) = absurd late.0
get_class_in bucket key etag range answered document body shown least most (unreadable status none late) =
    absurd (none (reply.Got answered.status answered.range answered.taken) (refl, refl, refl))
get_class_in bucket key etag range answered document body shown least most (refused code message from below reads) = absurd (omega arith)
get_class_in bucket key etag range answered document body shown least most (busy code message is) = let at = is.0 in absurd (omega arith)
get_class_in bucket key etag range answered document body shown least most (other from never) = absurd (omega arith)

get_class : (asked : Ask) (answered : Answered) (document body : List ℕ) (shown : Class) → IsGet asked → IsTwoHundred answered.status
    → HasClass asked answered document shown → HasClass asked answered body shown
get_class (ask.Get bucket key etag range) answered document body shown is two h = get_class_in bucket key etag range answered document body shown two.0 two.1 h
get_class asked answered document body shown is two h = absurd is

-- ---- where the body is

success_status : (asked : Ask) (answered : Answered) (document : List ℕ) (said : Reply) → HasClass asked answered document (class.Success said) → IsTwoHundred answered.status
success_status asked answered document said (succeeded told status reads) = status

placed : (limit : Option ℕ) (shown : Class) (body place : List ℕ) → place ≡ body → IsInPlace limit shown body place
placed None shown body place is = tt
placed (Some limit) (class.Success said) body place is = is
placed (Some limit) (class.Refusal code message) body place is = tt
placed (Some limit) (class.Uncertain reason) body place is = tt

placed_otherwise : (limit : Option ℕ) (shown : Class) (body place : List ℕ) → ((said : Reply) → shown ≡ class.Success said → ⊥) → IsInPlace limit shown body place
placed_otherwise None shown body place none = tt
placed_otherwise (Some limit) (class.Success said) body place none = absurd (none said refl)
placed_otherwise (Some limit) (class.Refusal code message) body place none = tt
placed_otherwise (Some limit) (class.Uncertain reason) body place none = tt

both : (b : Bool) → b ≡ true → b ≡ false → ⊥
both b is is_not = cc

-- the document is the body that the grammar gives, and a success under a limit has it in its place
delivered : (limit : Option ℕ) (asked : Ask) (answered : Answered) (shown : Class) (body : List ℕ) (first last : Buffer) → IfSome limit (λ most. IsGet asked × (most ≤ first.room))
    → Delivers limit answered body first last → HasClass asked answered answered.body.bytes shown → HasClass asked answered body shown × IsInPlace limit shown body last.bytes
delivered None asked answered shown body first last has_room d h = (subst (λ (document : List ℕ). HasClass asked answered document shown) (d.held refl).1 h, tt)
delivered (Some limit) asked answered shown body first last has_room d h = by_status (is_success answered.status) refl
  where
    by_status : (success : Bool) → is_success answered.status ≡ success → HasClass asked answered body shown × IsInPlace (Some limit) shown body last.bytes
    by_status true e = (get_class asked answered answered.body.bytes body shown has_room.0 (success_two_hundred answered.status e) h, placed (Some limit) shown body last.bytes (d.given e).0)
    by_status false e =
        let here = subst (λ (document : List ℕ). HasClass asked answered document shown) (d.held e).1 h in (
          here,
          placed_otherwise (Some limit) shown body last.bytes (λ said is.
              both (is_success answered.status) (two_hundred_success answered.status (success_status asked answered body said (subst (λ (c : Class). HasClass asked answered body c) is here))) e),
        )

uncertain_no_success : (reason : Why) (said : Reply) → class.Uncertain reason ≡ class.Success said → ⊥
uncertain_no_success reason said e = cc

refusal_clash : (code message : List ℕ) (reason : Why) → class.Refusal code message ≡ class.Uncertain reason → ⊥
refusal_clash code message reason e = cc

inside_clash : class.Uncertain why.Internal ≡ class.Uncertain why.WireFailed → ⊥
inside_clash e = cc

document_clash : class.Uncertain why.Document ≡ class.Uncertain why.WireFailed → ⊥
document_clash e = cc

status_clash : (status : ℕ) → class.Uncertain (why.Status status) ≡ class.Uncertain why.WireFailed → ⊥
status_clash status e = cc

memory_clash : class.Uncertain why.WireFailed ≡ class.Uncertain why.Memory → ⊥
memory_clash e = cc

no_class : (asked : Ask) (answered : Answered) (document : List ℕ) (shown : Class) → shown ≡ class.Uncertain why.WireFailed → ¬ (HasClass asked answered document shown)
no_class asked answered document shown is (succeeded said status reads) = uncertain_no_success why.WireFailed said (sym is)
no_class asked answered document shown is (failed_late code message status late named) = refusal_clash code message why.WireFailed is
no_class asked answered document shown is (failed_inside message status late) = absurd (inside_clash is)
no_class asked answered document shown is (unreadable status none late) = absurd (document_clash is)
no_class asked answered document shown is (refused code message from below reads) = refusal_clash code message why.WireFailed is
no_class asked answered document shown is (busy code message busy_is) = refusal_clash code message why.WireFailed is
no_class asked answered document shown is (other from never) = absurd (status_clash answered.status is)

answer_not_failed : (asked : Ask) (answered : Answered) → ¬ (IsClassed asked answered (class.Uncertain why.WireFailed))
answer_not_failed asked answered (inl h) = no_class asked answered answered.body.bytes (class.Uncertain why.WireFailed) refl h
answer_not_failed asked answered (inr wanting) = memory_clash wanting.0

same_uncertain : (a b : Why) → class.Uncertain a ≡ class.Uncertain b → a ≡ b
same_uncertain a b is = cc

final_status : (request : exchange.RawRequest) (first last : Buffer) (talk : Talk) (kept : Bool) (answered : Answered)
    → exchange.IsExchange request first last (talked.Answered answered) talk kept → 200 ≤ answered.status
final_status request first last talk kept answered e = let a = e.answered.is_answer in subst (λ (n : ℕ). 200 ≤ n) (sym a.says.status) a.reads.final

-- a call is judged to have failed only where the exchange says so
pub failed_call : (request : exchange.RawRequest) (first last : Buffer) (talk : Talk) (kept : Bool) (asked : Ask) (result : Talked) (shown : Class)
    → exchange.IsExchange request first last result talk kept → IsJudged asked result shown → shown ≡ class.Uncertain why.WireFailed → result ≡ talked.Broken why.WireFailed
failed_call request first last talk kept asked (talked.Answered answered) shown e j is =
    absurd (answer_not_failed asked answered (subst (λ (c : Class). IsClassed asked answered c) is (j.classed (final_status request first last talk kept answered e))))
failed_call request first last talk kept asked (talked.Broken reason) shown e j is = ap talked.Broken (same_uncertain reason why.WireFailed (sym j.broken ∙ is))

-- ---- the class of a talk

module _ (r : SignedRequest) (keep : Bool) (head : List ℕ) (first last : Buffer) (talk : Talk) (kept : Bool) where
  abbrev Exchanged : Talked → Type 0
  Exchanged result = exchange.IsExchange (exchange_of r keep head) first last result talk kept

  answered_class : (answered : Answered) (shown : Class) → IfSome r.limit (λ most. IsGet r.asked × (most ≤ first.room)) → Exchanged (talked.Answered answered)
      → IsClassed r.asked answered shown → attempt.HasClass r talk shown last.bytes
  answered_class answered shown has_room e (inl h) =
      let a = e.answered in
      let d = delivered r.limit r.asked answered shown a.body first last has_room a.delivers h in
      inr (a.body, inl (answered, answered_within (is_head r.asked) r.limit talk answered a.body a.behind a.is_answer, d.0), d.1)
  answered_class answered shown has_room e (inr wanting) = inl wanting.0

  same_reason : (a b : Why) → talked.Broken a ≡ talked.Broken b → a ≡ b
  same_reason a b is = cc

  broken_class : (reason : Why) → IsOfTalk reason → Exchanged (talked.Broken reason) → attempt.HasClass r talk (class.Uncertain reason) last.bytes
  broken_class reason own e = elim e.broken.breaks [
    | inl memory ↦ inl (ap class.Uncertain memory)
    | inr breaks ↦ inr (
      [],
      inr (
        reason,
        record {
          of_talk = own;
          breaks = break_within (is_head r.asked) r.limit talk.got talk.ending reason breaks;
          failed = ((λ is. e.failed.0 (ap talked.Broken is)), (λ fails. same_reason reason why.WireFailed (e.failed.1 fails)));
        },
        refl,
        refl,
      ),
      placed_otherwise r.limit (class.Uncertain reason) [] last.bytes (uncertain_no_success reason),
    )
  ]

  -- the class that is judged is the talk's
  pub has_class : (result : Talked) (shown : Class) → IfSome r.limit (λ most. IsGet r.asked × (most ≤ first.room)) → exchange.IfBroken result IsOfTalk → Exchanged result
      → IsJudged r.asked result shown → attempt.HasClass r talk shown last.bytes
  has_class (talked.Answered answered) shown has_room own e j = answered_class answered shown has_room e (j.classed (final_status _ first last talk kept answered e))
  has_class (talked.Broken reason) shown has_room own e j = subst (λ (c : Class). attempt.HasClass r talk c last.bytes) (sym j.broken) (broken_class reason own e)
