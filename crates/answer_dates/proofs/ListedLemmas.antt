-- What a document lists is dated.
use Rattle.std.proofs.Common.{◌≡◌, ◌<◌, ◌≤◌, ℕ, Bool, List, [], ◌∷◌, sym, subst, inl, inr}
use Rattle.std.proofs.lemmas.Bool.{cases_lt}
use Rattle.std.proofs.lemmas.List.Elements.{All-cons, All-head, All-nil, All-tail}
use Rattle.std.specs.List.{AllZip}
use Rattle.s3_model.specs.declared.answers.Answered.{Answered}
use Rattle.s3_model.specs.declared.answers.Class.{Class}
use Rattle.s3_model.specs.declared.answers.Class.TheVariants as class
use Rattle.s3_model.specs.declared.answers.Reply.{Reply}
use Rattle.s3_model.specs.declared.answers.Reply.TheVariants as reply
use Rattle.s3_model.specs.declared.answers.Talked.{Talked}
use Rattle.s3_model.specs.declared.answers.Talked.TheVariants as talked
use Rattle.s3_model.specs.declared.answers.Why.{Why}
use Rattle.s3_model.specs.declared.answers.Listed.{Listed}
use Rattle.s3_model.specs.declared.places.Entry.{Entry}
use Rattle.s3_model.specs.declared.requests.Ask.{Ask}
use Rattle.s3_model.specs.declared.requests.Ask.TheVariants as ask
use Rattle.s3_model.specs.Classes.{Succeeded, succeeded, failed_late, failed_inside, unreadable, refused, busy, other}
use Rattle.reply_xml.specs.Children.{Each}
use Rattle.reply_xml.specs.Contents.{Content}
use Rattle.s3_replies.specs.Buckets.{HasBucket, IsBucketList}
use Rattle.s3_replies.specs.Listing.{HasObject, IsListing, MeansEntry}
use Rattle.answer_classes.specs.Classifying.{IsClassed}
use Rattle.answer_classes.specs.Documents.{ReadsError, ReadsReply}
use Rattle.answer_classes.specs.Showing.{HasClass}
use Rattle.answer_dates.specs.Dates.{AnswersAreDated, AreDated, HasDates, IsClassOf, IsDated}
use Rattle.answer_dates.proofs.DateLemmas.{time_small}

object_dated : (content : Content) (entry : Entry) → HasObject content entry → IsDated entry
object_dated content entry h = time_small h.modified.2.0 entry.micros h.modified.2.2

bucket_dated : (content : Content) (entry : Entry) → HasBucket content entry → IsDated entry
bucket_dated content entry h = time_small h.created.2.0 entry.micros h.created.2.2

each_dated : (Means : Content → Entry → Type 0) → ((content : Content) (entry : Entry) → Means content entry → IsDated entry) → (contents : List Content) (entries : List Entry) → Each Means contents entries
    → AreDated entries
each_dated Means one [] [] h = All-nil IsDated
each_dated Means one [] (entry ∷ entries) h = absurd h
each_dated Means one (content ∷ contents) [] h = absurd h
each_dated Means one (content ∷ contents) (entry ∷ entries) h = All-cons IsDated entry entries (one content entry h.0) (each_dated Means one contents entries h.1)

meant_dated : (url : Bool) (written entries : List Entry) → AllZip (MeansEntry url) written entries → AreDated written → AreDated entries
meant_dated url [] [] h dated = All-nil IsDated
meant_dated url [] (entry ∷ entries) h dated = absurd h
meant_dated url (row ∷ rows) [] h dated = absurd h
meant_dated url (row ∷ rows) (entry ∷ entries) h dated =
    All-cons IsDated entry entries (subst (λ (n : ℕ). n < 253402300800000000) (sym h.0.micros) (All-head IsDated row rows dated)) (meant_dated url rows entries h.1 (All-tail IsDated row rows dated))

listing_dated : (bytes : List ℕ) (page : Listed) → IsListing bytes page → AreDated page.entries.items
listing_dated bytes page (written, (content, document, has), means) =
    meant_dated written.url written.entries page.entries.items means.entries (each_dated HasObject object_dated _ written.entries has.entries)

buckets_dated : (bytes : List ℕ) (buckets : List Entry) → IsBucketList bytes buckets → AreDated buckets
buckets_dated bytes buckets (content, document, (inner, is, has)) = each_dated HasBucket bucket_dated _ buckets has

-- ---- classes

reply_dated : (asked : Ask) (answered : Answered) (bytes : List ℕ) (said : Reply) → Succeeded ReadsError ReadsReply asked answered bytes said → HasDates (class.Success said)
reply_dated (ask.List bucket prefix delimited token) answered bytes (reply.Listed page) h = listing_dated bytes page h
reply_dated ask.Buckets answered bytes (reply.BucketList buckets) h = buckets_dated bytes buckets.items h
reply_dated (ask.Head bucket key) answered bytes (reply.Listed page) h = absurd h
reply_dated (ask.Get bucket key etag range) answered bytes (reply.Listed page) h = absurd h
reply_dated (ask.Put bucket key content fresh) answered bytes (reply.Listed page) h = absurd h
reply_dated (ask.Copy bucket key from_bucket from_key etag) answered bytes (reply.Listed page) h = absurd h
reply_dated (ask.Delete bucket key) answered bytes (reply.Listed page) h = absurd h
reply_dated (ask.Create bucket key content) answered bytes (reply.Listed page) h = absurd h
reply_dated (ask.Part bucket key upload number) answered bytes (reply.Listed page) h = absurd h
reply_dated (ask.PartCopy bucket key upload number from_bucket from_key etag range) answered bytes (reply.Listed page) h = absurd h
reply_dated (ask.Complete bucket key upload etags fresh) answered bytes (reply.Listed page) h = absurd h
reply_dated (ask.Abort bucket key upload) answered bytes (reply.Listed page) h = absurd h
reply_dated ask.Buckets answered bytes (reply.Listed page) h = absurd h
reply_dated (ask.Head bucket key) answered bytes (reply.BucketList buckets) h = absurd h
reply_dated (ask.Get bucket key etag range) answered bytes (reply.BucketList buckets) h = absurd h
reply_dated (ask.Put bucket key content fresh) answered bytes (reply.BucketList buckets) h = absurd h
reply_dated (ask.Copy bucket key from_bucket from_key etag) answered bytes (reply.BucketList buckets) h = absurd h
reply_dated (ask.Delete bucket key) answered bytes (reply.BucketList buckets) h = absurd h
reply_dated (ask.Create bucket key content) answered bytes (reply.BucketList buckets) h = absurd h
reply_dated (ask.Part bucket key upload number) answered bytes (reply.BucketList buckets) h = absurd h
reply_dated (ask.PartCopy bucket key upload number from_bucket from_key etag range) answered bytes (reply.BucketList buckets) h = absurd h
reply_dated (ask.Complete bucket key upload etags fresh) answered bytes (reply.BucketList buckets) h = absurd h
reply_dated (ask.Abort bucket key upload) answered bytes (reply.BucketList buckets) h = absurd h
reply_dated (ask.List bucket prefix delimited token) answered bytes (reply.BucketList buckets) h = absurd h
reply_dated asked answered bytes reply.Stored h = tt
reply_dated asked answered bytes (reply.Found size etag micros) h = tt
reply_dated asked answered bytes (reply.Got status range length) h = tt
reply_dated asked answered bytes reply.Gone h = tt
reply_dated asked answered bytes (reply.Created upload) h = tt
reply_dated asked answered bytes (reply.PartStored etag) h = tt
reply_dated asked answered bytes reply.Copied h = tt
reply_dated asked answered bytes reply.Completed h = tt

class_dated : (asked : Ask) (answered : Answered) (bytes : List ℕ) (shown : Class) → HasClass asked answered bytes shown → HasDates shown
class_dated asked answered bytes shown (succeeded said status reads) = reply_dated asked answered bytes said reads
class_dated asked answered bytes shown (failed_late code message status late named) = tt
class_dated asked answered bytes shown (failed_inside message status late) = tt
class_dated asked answered bytes shown (unreadable status none late) = tt
class_dated asked answered bytes shown (refused code message from below reads) = tt
class_dated asked answered bytes shown (busy code message is) = tt
class_dated asked answered bytes shown (other from never) = tt

open_dated : (shown : Class) (reason : Why) → shown ≡ class.Uncertain reason → HasDates shown
open_dated shown reason is = subst HasDates (sym is) tt

classed_dated : (asked : Ask) (answered : Answered) (shown : Class) → IsClassed asked answered shown → HasDates shown
classed_dated asked answered shown (inl h) = class_dated asked answered answered.body.bytes shown h
classed_dated asked answered shown (inr h) = open_dated shown _ h.0

pub answers_are_dated : AnswersAreDated
answers_are_dated asked (talked.Broken reason) shown c = open_dated shown reason c.broken
answers_are_dated asked (talked.Answered answered) shown c = elim (cases_lt answered.status 200) [
  | inl below ↦ open_dated shown _ (c.interim below)
  | inr from ↦ classed_dated asked answered shown (c.answered from)
]
