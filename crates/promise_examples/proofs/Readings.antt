-- What the reading of the examples shows of a talk.
use Rattle.std.proofs.Common.{◌≡◌, ◌∙◌, ℕ, List, [], refl, sym, ap, subst, None}
use Rattle.std.proofs.lemmas.List.{append-nil}
use Rattle.s3_model.specs.declared.requests.Ask.{Ask}
use Rattle.s3_model.specs.declared.answers.Listed.{Listed}
use Rattle.s3_model.specs.declared.answers.Reply.{Reply}
use Rattle.s3_model.specs.declared.answers.Reply.TheVariants as reply
use Rattle.s3_model.specs.declared.answers.Class.{Class}
use Rattle.s3_model.specs.declared.answers.Class.TheVariants as class
use Rattle.s3_model.specs.declared.answers.Why.{Why}
use Rattle.s3_model.specs.declared.answers.Why.TheVariants as why
use Rattle.s3_model.specs.Replies.{IsSameReply, IsSameClass, IsSamePage}
use Rattle.s3_model.specs.Talks.{Talk, Ending, Failed, Closed, Finished}
use Rattle.s3_service.specs.Serves.{Answer}
use Rattle.s3_model.specs.declared.tries.Mark.TheVariants as mark
use Rattle.job_terms.specs.Attempts.{mark_of, SaysAll}
use Rattle.run_promise.specs.Fits.{Names, IsCertain}
use Rattle.promise_examples.specs.Reading.{Reads, reply_to, class_by, body_by}
use Rattle.job_terms.specs.Dispatches.{Dispatched}

-- ---- replies that are the same

page_euclid : (a b c : Listed) → IsSamePage a b → IsSamePage a c → IsSamePage b c
page_euclid a b c h k = (sym h.0 ∙ k.0, sym h.1 ∙ k.1, sym h.2 ∙ k.2, sym h.3 ∙ k.3)

reply_euclid : (a b c : Reply) → IsSameReply a b → IsSameReply a c → IsSameReply b c
reply_euclid (reply.Listed a) (reply.Listed b) (reply.Listed c) h k = page_euclid a b c h k
reply_euclid (reply.Listed a) (reply.Listed b) c h k = cc
reply_euclid (reply.Listed a) b c h k = cc
reply_euclid (reply.BucketList a) (reply.BucketList b) (reply.BucketList c) h k = sym h ∙ k
reply_euclid (reply.BucketList a) (reply.BucketList b) c h k = cc
reply_euclid (reply.BucketList a) b c h k = cc
reply_euclid a b c h k = subst (λ (x : Reply). IsSameReply x c) h k

pub same_mark : (a b : Class) → IsSameClass a b → mark_of a ≡ mark_of b
same_mark (class.Success a) (class.Success b) h = refl
same_mark (class.Success a) b h = ap mark_of h
same_mark a b h = ap mark_of h

pub same_names : (a b : Class) (bytes : List ℕ) (answer : Answer) → IsSameClass a b → Names a bytes answer → Names b bytes answer
same_names (class.Success a) (class.Success b) bytes answer h k = (k.0, reply_euclid a b k.0 h k.1, k.2)
same_names (class.Success a) b bytes answer h k = subst (λ (c : Class). Names c bytes answer) h k
same_names a b bytes answer h k = subst (λ (c : Class). Names c bytes answer) h k

reply_itself : (a : Reply) → IsSameReply a a
reply_itself (reply.Listed a) = (refl, refl, refl, refl)
reply_itself (reply.BucketList a) = refl
reply_itself a = refl

pub class_itself : (a : Class) → IsSameClass a a
class_itself (class.Success a) = reply_itself a
class_itself a = refl

pub same_uncertain : (c : Dispatched) (why : Why) (shown : Class) → IsSameClass (class.Uncertain why) shown → IsCertain None c shown → ⊥
same_uncertain c why shown h certain = subst (IsCertain None c) (sym h) certain

pub refusal_success : mark.Refusal ≡ mark.Success → ⊥
refusal_success e = cc

pub uncertain_success : mark.Uncertain ≡ mark.Success → ⊥
uncertain_success e = cc

success_memory : (said : Reply) → class.Success said ≡ class.Uncertain why.Memory → ⊥
success_memory said e = cc

refusal_memory : (code message : List ℕ) → class.Refusal code message ≡ class.Uncertain why.Memory → ⊥
refusal_memory code message e = cc

failed_memory : class.Uncertain why.WireFailed ≡ class.Uncertain why.Memory → ⊥
failed_memory e = cc

module _ (page_of : List ℕ → Listed) where
  -- no talk says that memory ran out
  pub never_memory : (ending : Ending) (asked : Ask) (got : List ℕ) → class_by page_of ending asked got ≡ class.Uncertain why.Memory → ⊥
  never_memory Finished asked got e = success_memory (reply_to page_of asked got) e
  never_memory Closed asked got e = refusal_memory got [] e
  never_memory Failed asked got e = failed_memory e

  -- what a talk shows
  abbrev pub shown_by : Ask → Talk → Class
  shown_by asked talk = class_by page_of talk.ending asked talk.got

  pub reads : (asked : Ask) (limit : ℕ) (talk : Talk) → Reads page_of asked limit talk (shown_by asked talk) (body_by page_of asked talk.got)
  reads asked limit talk = (class_itself (shown_by asked talk), refl)

  -- an answer that a talk names is named whatever it is read as
  pub names : (asked : Ask) (limit : ℕ) (talk : Talk) (answer : Answer) → Names (shown_by asked talk) (body_by page_of asked talk.got) answer
      → (shown : Class) (bytes : List ℕ) → Reads page_of asked limit talk shown bytes → Names shown bytes answer
  names asked limit talk answer named shown bytes is =
      subst (λ (b : List ℕ). Names shown b answer) (sym is.1) (same_names (shown_by asked talk) shown (body_by page_of asked talk.got) answer is.0 named)

  -- the whole text says all
  pub says_whole : (Shows : Ask → ℕ → Talk → Class → List ℕ → Type 0) (request_text : Ask → List ℕ → ℕ → List ℕ) (host : List ℕ) (port : ℕ) (shown : Class) (text : List ℕ)
      → SaysAll Shows request_text host port shown text text
  says_whole Shows request_text host port (class.Success said) text = refl
  says_whole Shows request_text host port (class.Refusal code message) text = refl
  says_whole Shows request_text host port (class.Uncertain why) text = ([], append-nil text)
