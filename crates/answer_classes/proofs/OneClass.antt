-- An answer has one class at most.
use Rattle.shared_lemmas.proofs.Clashes.{some_is}
use Rattle.std.proofs.Common.{◌≡◌, ◌∙◌, ℕ, Bool, List, Option, Some, refl, sym, ap, inl, inr, arith}
use Rattle.std.specs.Prelude.{codes}
use Rattle.s3_model.specs.Lists.{Reserved}
use Rattle.s3_model.specs.declared.requests.Ask.{Ask}
use Rattle.s3_model.specs.declared.requests.Ask.TheVariants as ask
use Rattle.s3_model.specs.declared.answers.Answered.{Answered}
use Rattle.s3_model.specs.declared.answers.Reply.{Reply}
use Rattle.s3_model.specs.declared.answers.Reply.TheVariants as reply
use Rattle.s3_model.specs.declared.answers.Class.{Class}
use Rattle.s3_model.specs.declared.answers.Class.TheVariants as class
use Rattle.s3_model.specs.Replies.{IsSameReply, IsSameClass}
use Rattle.s3_model.specs.Classes.{HasOneClass, HasOneReading, IsClass, Succeeded, FailsLate, Refuses, succeeded, failed_late, failed_inside, unreadable, refused, busy, other}

-- both are what was found
one_found : {X : Type 0} (found : Option X) (a b : X) → found ≡ Some a → found ≡ Some b → a ≡ b
one_found found a b at_a at_b = some_is a b (sym at_a ∙ at_b)

found_is : (a b : ℕ) (c d : List ℕ) (e f : ℕ) → a ≡ b → c ≡ d → e ≡ f → reply.Found a c e ≡ reply.Found b d f
found_is a b c d e f p q r = cc

got_is : (a b : ℕ) (c d : Option (ℕ × ℕ × ℕ)) (e f : ℕ) → a ≡ b → c ≡ d → e ≡ f → reply.Got a c e ≡ reply.Got b d f
got_is a b c d e f p q r = cc

refusal_is : (a b c d : List ℕ) → a ≡ b → c ≡ d → class.Refusal a c ≡ class.Refusal b d
refusal_is a b c d p q = cc

module _ (ReadsError : List ℕ → List ℕ → List ℕ → Type 0) (ReadsReply : Ask → List ℕ → Reply → Type 0) (one : HasOneReading ReadsError ReadsReply) (answered : Answered) (document : List ℕ) where
  abbrev Says : Ask → Reply → Type 0
  Says asked said = Succeeded ReadsError ReadsReply asked answered document said

  -- ---- one reply

  head_says : (bucket key : List ℕ) (said same : Reply) → Says (ask.Head bucket key) said → Says (ask.Head bucket key) same → IsSameReply said same
  head_says bucket key (reply.Found a b c) (reply.Found d e f) h k = found_is a d b e c f (one_found _ a d h.0 k.0) (one_found _ b e h.1 k.1) (one_found _ c f h.2 k.2)
  head_says bucket key (reply.Found a b c) same h k = absurd k
  head_says bucket key said same h k = absurd h

  get_says : (bucket key etag : List ℕ) (range : Option (ℕ × ℕ)) (said same : Reply) → Says (ask.Get bucket key etag range) said → Says (ask.Get bucket key etag range) same → IsSameReply said same
  get_says bucket key etag range (reply.Got a b c) (reply.Got d e f) h k = got_is a d b e c f (h.0 ∙ sym k.0) (h.1 ∙ sym k.1) (h.2 ∙ sym k.2)
  get_says bucket key etag range (reply.Got a b c) same h k = absurd k
  get_says bucket key etag range said same h k = absurd h

  put_says : (bucket key : List ℕ) (content : Option (List ℕ)) (fresh : Bool) (said same : Reply) → Says (ask.Put bucket key content fresh) said → Says (ask.Put bucket key content fresh) same → IsSameReply said same
  put_says bucket key content fresh reply.Stored reply.Stored h k = refl
  put_says bucket key content fresh reply.Stored same h k = absurd k
  put_says bucket key content fresh said same h k = absurd h

  delete_says : (bucket key : List ℕ) (said same : Reply) → Says (ask.Delete bucket key) said → Says (ask.Delete bucket key) same → IsSameReply said same
  delete_says bucket key reply.Gone reply.Gone h k = refl
  delete_says bucket key reply.Gone same h k = absurd k
  delete_says bucket key said same h k = absurd h

  abort_says : (bucket key upload : List ℕ) (said same : Reply) → Says (ask.Abort bucket key upload) said → Says (ask.Abort bucket key upload) same → IsSameReply said same
  abort_says bucket key upload reply.Gone reply.Gone h k = refl
  abort_says bucket key upload reply.Gone same h k = absurd k
  abort_says bucket key upload said same h k = absurd h

  part_says : (bucket key upload : List ℕ) (number : ℕ) (said same : Reply) → Says (ask.Part bucket key upload number) said → Says (ask.Part bucket key upload number) same → IsSameReply said same
  part_says bucket key upload number (reply.PartStored a) (reply.PartStored b) h k = ap reply.PartStored (one_found _ a b h k)
  part_says bucket key upload number (reply.PartStored a) same h k = absurd k
  part_says bucket key upload number said same h k = absurd h

  copy_says : (bucket key from_bucket from_key etag : List ℕ) (said same : Reply) → Says (ask.Copy bucket key from_bucket from_key etag) said → Says (ask.Copy bucket key from_bucket from_key etag) same
      → IsSameReply said same
  copy_says bucket key from_bucket from_key etag reply.Copied reply.Copied h k = refl
  copy_says bucket key from_bucket from_key etag reply.Copied same h k = absurd k
  copy_says bucket key from_bucket from_key etag said same h k = absurd h

  part_copy_says : (bucket key upload : List ℕ) (number : ℕ) (from_bucket from_key etag : List ℕ) (range : ℕ × ℕ) (said same : Reply) → Says (ask.PartCopy bucket key upload number from_bucket from_key etag range) said
      → Says (ask.PartCopy bucket key upload number from_bucket from_key etag range) same → IsSameReply said same
  part_copy_says bucket key upload number from_bucket from_key etag range (reply.PartStored a) (reply.PartStored b) h k = one.one_reply _ document _ _ h k
  part_copy_says bucket key upload number from_bucket from_key etag range (reply.PartStored a) same h k = absurd k
  part_copy_says bucket key upload number from_bucket from_key etag range said same h k = absurd h

  create_says : (bucket key : List ℕ) (content : Option (List ℕ)) (said same : Reply) → Says (ask.Create bucket key content) said → Says (ask.Create bucket key content) same → IsSameReply said same
  create_says bucket key content (reply.Created a) (reply.Created b) h k = one.one_reply _ document _ _ h k
  create_says bucket key content (reply.Created a) same h k = absurd k
  create_says bucket key content said same h k = absurd h

  complete_says : (bucket key upload : List ℕ) (etags : Reserved (List ℕ)) (fresh : Bool) (said same : Reply) → Says (ask.Complete bucket key upload etags fresh) said → Says (ask.Complete bucket key upload etags fresh) same
      → IsSameReply said same
  complete_says bucket key upload etags fresh reply.Completed reply.Completed h k = refl
  complete_says bucket key upload etags fresh reply.Completed same h k = absurd k
  complete_says bucket key upload etags fresh said same h k = absurd h

  list_says : (bucket prefix : List ℕ) (delimited : Bool) (token : Option (List ℕ)) (said same : Reply) → Says (ask.List bucket prefix delimited token) said → Says (ask.List bucket prefix delimited token) same
      → IsSameReply said same
  list_says bucket prefix delimited token (reply.Listed a) (reply.Listed b) h k = one.one_reply _ document _ _ h k
  list_says bucket prefix delimited token (reply.Listed a) same h k = absurd k
  list_says bucket prefix delimited token said same h k = absurd h

  buckets_says : (said same : Reply) → Says ask.Buckets said → Says ask.Buckets same → IsSameReply said same
  buckets_says (reply.BucketList a) (reply.BucketList b) h k = one.one_reply _ document _ _ h k
  buckets_says (reply.BucketList a) same h k = absurd k
  buckets_says said same h k = absurd h

  one_reply : (asked : Ask) (said same : Reply) → Says asked said → Says asked same → IsSameReply said same
  one_reply (ask.Head bucket key) = head_says bucket key
  one_reply (ask.Get bucket key etag range) = get_says bucket key etag range
  one_reply (ask.Put bucket key content fresh) = put_says bucket key content fresh
  one_reply (ask.Copy bucket key from_bucket from_key etag) = copy_says bucket key from_bucket from_key etag
  one_reply (ask.Delete bucket key) = delete_says bucket key
  one_reply (ask.Create bucket key content) = create_says bucket key content
  one_reply (ask.Part bucket key upload number) = part_says bucket key upload number
  one_reply (ask.PartCopy bucket key upload number from_bucket from_key etag range) = part_copy_says bucket key upload number from_bucket from_key etag range
  one_reply (ask.Complete bucket key upload etags fresh) = complete_says bucket key upload etags fresh
  one_reply (ask.Abort bucket key upload) = abort_says bucket key upload
  one_reply (ask.List bucket prefix delimited token) = list_says bucket prefix delimited token
  one_reply ask.Buckets = buckets_says

  -- ---- a success does not fail late

  abbrev Fails : Ask → List ℕ → List ℕ → Type 0
  Fails asked code message = FailsLate ReadsError ReadsReply asked document code message

  copied_fails : (bucket key from_bucket from_key etag code message : List ℕ) (said : Reply) → Says (ask.Copy bucket key from_bucket from_key etag) said → ReadsError document code message → ⊥
  copied_fails bucket key from_bucket from_key etag code message reply.Copied h e = one.not_both _ document code message _ e h
  copied_fails bucket key from_bucket from_key etag code message said h e = h

  part_copied_fails : (bucket key upload : List ℕ) (number : ℕ) (from_bucket from_key etag : List ℕ) (range : ℕ × ℕ) (code message : List ℕ) (said : Reply)
      → Says (ask.PartCopy bucket key upload number from_bucket from_key etag range) said → ReadsError document code message → ⊥
  part_copied_fails bucket key upload number from_bucket from_key etag range code message (reply.PartStored stored) h e = one.not_both _ document code message _ e h
  part_copied_fails bucket key upload number from_bucket from_key etag range code message said h e = h

  completed_fails : (bucket key upload : List ℕ) (etags : Reserved (List ℕ)) (fresh : Bool) (code message : List ℕ) (said : Reply) → Says (ask.Complete bucket key upload etags fresh) said → ReadsError document code message → ⊥
  completed_fails bucket key upload etags fresh code message reply.Completed h e = one.not_both _ document code message _ e h
  completed_fails bucket key upload etags fresh code message said h e = h

  not_both : (asked : Ask) (code message : List ℕ) (said : Reply) → Says asked said → Fails asked code message → ⊥
  not_both (ask.Copy bucket key from_bucket from_key etag) code message said h fails = copied_fails bucket key from_bucket from_key etag code message said h fails.1
  not_both (ask.PartCopy bucket key upload number from_bucket from_key etag range) code message said h fails =
      part_copied_fails bucket key upload number from_bucket from_key etag range code message said h fails.1
  not_both (ask.Complete bucket key upload etags fresh) code message said h fails = completed_fails bucket key upload etags fresh code message said h fails.1
  not_both asked code message said h fails = absurd fails.0

  -- ---- one refusal

  one_refusal : (asked : Ask) (a b c d : List ℕ) → Refuses ReadsError ReadsReply asked answered document a b → Refuses ReadsError ReadsReply asked answered document c d → class.Refusal a b ≡ class.Refusal c d
  one_refusal asked a b c d (inl h) (inl k) = let same = one.one_error document a b c d h.1 k.1 in refusal_is a c b d same.0 same.1
  one_refusal asked a b c d (inl h) (inr k) = absurd (k.0 h.0 a b h.1)
  one_refusal asked a b c d (inr h) (inl k) = absurd (h.0 k.0 c d k.1)
  one_refusal asked a b c d (inr h) (inr k) = refusal_is a c b d (h.1 ∙ sym k.1) (h.2 ∙ sym k.2)

  -- ---- one class

  abbrev Is : Ask → Class → Type 0
  Is asked shown = IsClass ReadsError ReadsReply asked answered document shown

  pub one_class : (asked : Ask) (shown same : Class) → Is asked shown → Is asked same → IsSameClass shown same
  one_class asked _ _ (succeeded said fine says) (succeeded told well tells) = one_reply asked said told says tells
  one_class asked _ _ (succeeded said fine says) (failed_late code message well fails not_inside) = absurd (not_both asked code message said says fails)
  one_class asked _ _ (succeeded said fine says) (failed_inside message well fails) = absurd (not_both asked (codes "InternalError") message said says fails)
  one_class asked _ _ (succeeded said fine says) (unreadable well no_reply no_error) = absurd (no_reply said says)
  one_class asked _ _ (succeeded said fine says) (refused code message least most refuses) = absurd (omega arith)
  one_class asked _ _ (succeeded said fine says) (busy code message is) = absurd (omega arith)
  one_class asked _ _ (succeeded said fine says) (other least not_busy) = absurd (omega arith)
  one_class asked _ _ (failed_late code message fine fails not_inside) (succeeded said well says) = absurd (not_both asked code message said says fails)
  one_class asked _ _ (failed_late code message fine fails not_inside) (failed_late c m well same other_not) =
      let is = one.one_error document code message c m fails.1 same.1 in refusal_is code c message m is.0 is.1
  one_class asked _ _ (failed_late code message fine fails not_inside) (failed_inside m well same) = absurd (not_inside (one.one_error document code message (codes "InternalError") m fails.1 same.1).0)
  one_class asked _ _ (failed_late code message fine fails not_inside) (unreadable well no_reply no_error) = absurd (no_error code message fails)
  one_class asked _ _ (failed_late code message fine fails not_inside) (refused c m least most refuses) = absurd (omega arith)
  one_class asked _ _ (failed_late code message fine fails not_inside) (busy c m is) = absurd (omega arith)
  one_class asked _ _ (failed_late code message fine fails not_inside) (other least not_busy) = absurd (omega arith)
  one_class asked _ _ (failed_inside message fine fails) (succeeded said well says) = absurd (not_both asked (codes "InternalError") message said says fails)
  one_class asked _ _ (failed_inside message fine fails) (failed_late c m well same not_inside) = absurd (not_inside (one.one_error document c m (codes "InternalError") message same.1 fails.1).0)
  one_class asked _ _ (failed_inside message fine fails) (failed_inside m well same) = refl
  one_class asked _ _ (failed_inside message fine fails) (unreadable well no_reply no_error) = absurd (no_error (codes "InternalError") message fails)
  one_class asked _ _ (failed_inside message fine fails) (refused c m least most refuses) = absurd (omega arith)
  one_class asked _ _ (failed_inside message fine fails) (busy c m is) = absurd (omega arith)
  one_class asked _ _ (failed_inside message fine fails) (other least not_busy) = absurd (omega arith)
  one_class asked _ _ (unreadable fine no_reply no_error) (succeeded said well says) = absurd (no_reply said says)
  one_class asked _ _ (unreadable fine no_reply no_error) (failed_late code message well fails not_inside) = absurd (no_error code message fails)
  one_class asked _ _ (unreadable fine no_reply no_error) (failed_inside message well fails) = absurd (no_error (codes "InternalError") message fails)
  one_class asked _ _ (unreadable fine no_reply no_error) (unreadable well none nothing) = refl
  one_class asked _ _ (unreadable fine no_reply no_error) (refused c m least most refuses) = absurd (omega arith)
  one_class asked _ _ (unreadable fine no_reply no_error) (busy c m is) = absurd (omega arith)
  one_class asked _ _ (unreadable fine no_reply no_error) (other least not_busy) = absurd (omega arith)
  one_class asked _ _ (refused code message least most refuses) (succeeded said well says) = absurd (omega arith)
  one_class asked _ _ (refused code message least most refuses) (failed_late c m well fails not_inside) = absurd (omega arith)
  one_class asked _ _ (refused code message least most refuses) (failed_inside m well fails) = absurd (omega arith)
  one_class asked _ _ (refused code message least most refuses) (unreadable well no_reply no_error) = absurd (omega arith)
  one_class asked _ _ (refused code message least most refuses) (refused c m low high same) = one_refusal asked code message c m refuses same
  one_class asked _ _ (refused code message least most refuses) (busy c m is) = absurd (omega arith)
  one_class asked _ _ (refused code message least most refuses) (other low not_busy) = absurd (omega arith)
  one_class asked _ _ (busy code message is) (succeeded said well says) = absurd (omega arith)
  one_class asked _ _ (busy code message is) (failed_late c m well fails not_inside) = absurd (omega arith)
  one_class asked _ _ (busy code message is) (failed_inside m well fails) = absurd (omega arith)
  one_class asked _ _ (busy code message is) (unreadable well no_reply no_error) = absurd (omega arith)
  one_class asked _ _ (busy code message is) (refused c m least most refuses) = absurd (omega arith)
  one_class asked _ _ (busy code message is) (busy c m same) = let one_is = one.one_error document code message c m is.1 same.1 in refusal_is code c message m one_is.0 one_is.1
  one_class asked _ _ (busy code message is) (other least not_busy) = absurd (not_busy code message is)
  one_class asked _ _ (other least not_busy) (succeeded said well says) = absurd (omega arith)
  one_class asked _ _ (other least not_busy) (failed_late c m well fails not_inside) = absurd (omega arith)
  one_class asked _ _ (other least not_busy) (failed_inside m well fails) = absurd (omega arith)
  one_class asked _ _ (other least not_busy) (unreadable well no_reply no_error) = absurd (omega arith)
  one_class asked _ _ (other least not_busy) (refused c m low most refuses) = absurd (omega arith)
  one_class asked _ _ (other least not_busy) (busy code message is) = absurd (not_busy code message is)
  one_class asked _ _ (other least not_busy) (other low none) = refl

pub has_one_class : (ReadsError : List ℕ → List ℕ → List ℕ → Type 0) (ReadsReply : Ask → List ℕ → Reply → Type 0) → HasOneClass ReadsError ReadsReply
has_one_class ReadsError ReadsReply one asked answered document shown same is also = one_class ReadsError ReadsReply one answered document asked shown same is also
