-- A talk shows one class, with one body.
use Rattle.std.proofs.Common.{◌≡◌, ◌∙◌, ℕ, List, Some, ap, sym, subst, inl, inr}
use Rattle.s3_model.specs.Lists.{Buffer}
use Rattle.s3_model.specs.declared.requests.Ask.{Ask}
use Rattle.s3_model.specs.declared.requests.Ask.TheVariants as ask
use Rattle.s3_model.specs.declared.answers.Answered.{Answered}
use Rattle.s3_model.specs.declared.answers.Reply.{Reply}
use Rattle.s3_model.specs.declared.answers.Reply.TheVariants as reply
use Rattle.s3_model.specs.declared.answers.Why.{Why}
use Rattle.s3_model.specs.declared.answers.Class.{Class}
use Rattle.s3_model.specs.declared.answers.Class.TheVariants as class
use Rattle.s3_model.specs.Classes.{Succeeded, succeeded, failed_late, failed_inside, unreadable, refused, busy, other}
use Rattle.s3_model.specs.Replies.{IsSameClass}
use Rattle.s3_model.specs.Talks.{Talk}
use Rattle.answer_grammar.specs.Breaks.{answer, broken}
use Rattle.answer_grammar.proofs.OneEnd.{one_end}
use Rattle.answer_classes.specs.Documents.{ReadsError, ReadsReply}
use Rattle.answer_classes.specs.Showing.{HasClass, IsAnswered, IsBroken, OneShown, is_head}
use Rattle.answer_classes.proofs.OneClass.{has_one_class}
use Rattle.answer_classes.proofs.OneReading.{one_reading}

-- where an answer holds its body is no part of what it says
abbrev held : Answered → Buffer → Answered
held answered body = record answered { body = body }

abbrev Says : Ask → Answered → (document : List ℕ) → Reply → Type 0
Says asked answered document said = Succeeded ReadsError ReadsReply asked answered document said

says_held : (asked : Ask) (answered : Answered) (body : Buffer) (document : List ℕ) (said : Reply) → Says asked answered document said → Says asked (held answered body) document said
says_held (ask.Head bucket key) answered body document (reply.Found size etag micros) h = h
says_held (ask.Get bucket key etag range) answered body document (reply.Got status said length) h = h
says_held (ask.Put bucket key content fresh) answered body document reply.Stored h = h
says_held (ask.Delete bucket key) answered body document reply.Gone h = h
says_held (ask.Abort bucket key upload) answered body document reply.Gone h = h
says_held (ask.Part bucket key upload number) answered body document (reply.PartStored etag) h = h
says_held (ask.Copy bucket key from_bucket from_key etag) answered body document reply.Copied h = h
says_held (ask.PartCopy bucket key upload number from_bucket from_key etag range) answered body document (reply.PartStored stored) h = h
says_held (ask.Create bucket key content) answered body document (reply.Created upload) h = h
says_held (ask.Complete bucket key upload etags fresh) answered body document reply.Completed h = h
says_held (ask.List bucket prefix delimited token) answered body document (reply.Listed page) h = h
says_held ask.Buckets answered body document (reply.BucketList buckets) h = h
says_held asked answered body document said h = absurd h

says_back : (asked : Ask) (answered : Answered) (body : Buffer) (document : List ℕ) (said : Reply) → Says asked (held answered body) document said → Says asked answered document said
says_back asked answered body document said h = says_held asked (held answered body) answered.body document said h

class_held : (asked : Ask) (answered : Answered) (body : Buffer) (document : List ℕ) (shown : Class) → HasClass asked answered document shown → HasClass asked (held answered body) document shown
class_held asked answered body document _ (succeeded said fine says) = succeeded said fine (says_held asked answered body document said says)
class_held asked answered body document _ (failed_late code message fine fails not_inside) = failed_late code message fine fails not_inside
class_held asked answered body document _ (failed_inside message fine fails) = failed_inside message fine fails
class_held asked answered body document _ (unreadable fine no_reply no_error) = unreadable fine (λ said h. no_reply said (says_back asked answered body document said h)) no_error
class_held asked answered body document _ (refused code message least most refuses) = refused code message least most refuses
class_held asked answered body document _ (busy code message is) = busy code message is
class_held asked answered body document _ (other least not_busy) = other least not_busy

-- ---- one class

-- both are answers
answers : (asked : Ask) (limit : ℕ) (talk : Talk) (a b : Answered) (x y : List ℕ) (one same : Class) → IsAnswered asked limit talk a x → HasClass asked a x one → IsAnswered asked limit talk b y → HasClass asked b y same
    → IsSameClass one same × (x ≡ y)
answers asked limit talk a b x y one same here is there also =
    let end = one_end (is_head asked) (Some limit) talk.got talk.ending (answer a x here.0) (answer b y there.0) here.1 there.1 in
    let moved : HasClass asked b y one =
    subst (λ (t : List ℕ). HasClass asked b t one) end.1 (subst (λ (t : Answered). HasClass asked t x one) end.0 (class_held asked a b.body x one is)) in
    (has_one_class ReadsError ReadsReply one_reading asked b y one same moved also, end.1)

-- no answer is a break
never : (asked : Ask) (limit : ℕ) (talk : Talk) (a : Answered) (x : List ℕ) (reason : Why) → IsAnswered asked limit talk a x → IsBroken asked limit talk reason → ⊥
never asked limit talk a x reason here there = one_end (is_head asked) (Some limit) talk.got talk.ending (answer a x here.0) (broken reason) here.1 there.breaks

lost_class : (a b : Why) (one same : Class) → a ≡ b → one ≡ class.Uncertain a → same ≡ class.Uncertain b → IsSameClass one same
lost_class a b one same e p q =
    subst (λ (c : Class). IsSameClass c same) (sym p) (subst (λ (c : Class). IsSameClass (class.Uncertain a) c) (sym q) (ap class.Uncertain e))

pub one_shown : OneShown
one_shown asked limit talk one same bytes body (inl h) (inl k) = answers asked limit talk h.0 k.0 bytes body one same h.1 h.2 k.1 k.2
one_shown asked limit talk one same bytes body (inl h) (inr k) = absurd (never asked limit talk h.0 bytes k.0 h.1 k.1)
one_shown asked limit talk one same bytes body (inr h) (inl k) = absurd (never asked limit talk k.0 body h.0 k.1 h.1)
one_shown asked limit talk one same bytes body (inr h) (inr k) = (
  lost_class h.0 k.0 one same (one_end (is_head asked) (Some limit) talk.got talk.ending (broken h.0) (broken k.0) h.1.breaks k.1.breaks) h.2 k.2,
  h.3 ∙ sym k.3,
)
