-- The answers whose document says how the request went.
use Rattle.std.proofs.Common.{ℕ, Bool, true, false, List, Option, sym, subst, inl, inr}
use Rattle.s3_model.specs.declared.requests.Ask.{Ask}
use Rattle.s3_model.specs.declared.requests.Ask.TheVariants as ask
use Rattle.s3_model.specs.declared.answers.Answered.{Answered}
use Rattle.s3_model.specs.declared.answers.Reply.{Reply}
use Rattle.s3_model.specs.declared.answers.Reply.TheVariants as reply
use Rattle.s3_model.specs.declared.answers.Class.{Class}
use Rattle.s3_model.specs.declared.answers.Class.TheVariants as class
use Rattle.s3_model.specs.declared.answers.Why.TheVariants as why
use Rattle.s3_model.specs.Classes.{IsTwoHundred, FailsLate, MayFailLate, Succeeded}
use Rattle.s3_model.specs.Classes as row
use Rattle.reply_xml.specs.declared.faults.DocFault.{DocFault}
use Rattle.reply_xml.specs.Faults.{Tells}
use Rattle.reply_xml.proofs.FaultLemmas.{Tells-map}
use Rattle.s3_model.specs.Lists.{Reserved}
use Rattle.s3_model.specs.declared.answers.Listed.{Listed}
use Rattle.s3_model.specs.declared.places.Entry.{Entry}
use Rattle.s3_replies.specs.Buckets.{IsBucketList}
use Rattle.s3_replies.specs.Listing.{IsListing}
use Rattle.s3_replies.specs.Results.{IsCompleted, IsCopied, IsCreated}
use Rattle.answer_classes.specs.Documents.{ReadsError, ReadsReply}
use Rattle.answer_classes.specs.Classifying.{IsClassed, NeedsDocument}
use Rattle.answer_classes.specs.Steps.{IsLateClass}

abbrev Says : Ask → Answered → (document : List ℕ) → Reply → Type 0
Says asked answered document said = Succeeded ReadsError ReadsReply asked answered document said

-- the document is all that counts
by_document : (asked : Ask) (answered : Answered) (document : List ℕ) (said : Reply) → ReadsReply asked document said → Says asked answered document said
by_document (ask.Copy bucket key from_bucket from_key etag) answered document reply.Copied h = h
by_document (ask.PartCopy bucket key upload number from_bucket from_key etag range) answered document (reply.PartStored stored) h = h
by_document (ask.Create bucket key content) answered document (reply.Created upload) h = h
by_document (ask.Complete bucket key upload etags fresh) answered document reply.Completed h = h
by_document (ask.List bucket prefix delimited token) answered document (reply.Listed page) h = h
by_document ask.Buckets answered document (reply.BucketList buckets) h = h
by_document asked answered document said h = absurd h

of_document : (asked : Ask) (answered : Answered) (document : List ℕ) (said : Reply) → NeedsDocument asked → Says asked answered document said → ReadsReply asked document said
of_document (ask.Head bucket key) answered document said needs h = absurd needs
of_document (ask.Get bucket key etag range) answered document said needs h = absurd needs
of_document (ask.Put bucket key content fresh) answered document said needs h = absurd needs
of_document (ask.Delete bucket key) answered document said needs h = absurd needs
of_document (ask.Part bucket key upload number) answered document said needs h = absurd needs
of_document (ask.Abort bucket key upload) answered document said needs h = absurd needs
of_document (ask.Copy bucket key from_bucket from_key etag) answered document reply.Copied needs h = h
of_document (ask.PartCopy bucket key upload number from_bucket from_key etag range) answered document (reply.PartStored stored) needs h = h
of_document (ask.Create bucket key content) answered document (reply.Created upload) needs h = h
of_document (ask.Complete bucket key upload etags fresh) answered document reply.Completed needs h = h
of_document (ask.List bucket prefix delimited token) answered document (reply.Listed page) needs h = h
of_document ask.Buckets answered document (reply.BucketList buckets) needs h = h
of_document asked answered document said needs h = absurd h

pub succeeds : (asked : Ask) (answered : Answered) (said : Reply) → IsTwoHundred answered.status → ReadsReply asked answered.body.bytes said → IsClassed asked answered (class.Success said)
succeeds asked answered said fine reads = inl (row.succeeded said fine (by_document asked answered answered.body.bytes said reads))

-- ---- a document that says no reply

no_copy : (bucket key from_bucket from_key etag : List ℕ) (doc : List ℕ) → ((copied : List ℕ) → ¬ (IsCopied false doc copied)) → (said : Reply) → ¬ (ReadsReply (ask.Copy bucket key from_bucket from_key etag) doc said)
no_copy bucket key from_bucket from_key etag doc none reply.Copied h = none h.0 h.1
no_copy bucket key from_bucket from_key etag doc none said h = absurd h

pub copy_refused : (bucket key from_bucket from_key etag : List ℕ) (doc : List ℕ) (fault : DocFault) → Tells fault ((copied : List ℕ) → ¬ (IsCopied false doc copied)) → Tells fault ((said : Reply) → ¬ (ReadsReply (ask.Copy bucket key from_bucket from_key etag) doc said))
copy_refused bucket key from_bucket from_key etag doc fault says = Tells-map fault (λ none. no_copy bucket key from_bucket from_key etag doc none) says

no_part_copy : (bucket key upload : List ℕ) (number : ℕ) (from_bucket from_key etag : List ℕ) (range : ℕ × ℕ) (doc : List ℕ) → ((stored : List ℕ) → ¬ (IsCopied true doc stored)) → (said : Reply) → ¬ (ReadsReply (ask.PartCopy bucket key upload number from_bucket from_key etag range) doc said)
no_part_copy bucket key upload number from_bucket from_key etag range doc none (reply.PartStored stored) h = none stored h
no_part_copy bucket key upload number from_bucket from_key etag range doc none said h = absurd h

pub part_copy_refused : (bucket key upload : List ℕ) (number : ℕ) (from_bucket from_key etag : List ℕ) (range : ℕ × ℕ) (doc : List ℕ) (fault : DocFault) → Tells fault ((stored : List ℕ) → ¬ (IsCopied true doc stored)) → Tells fault ((said : Reply) → ¬ (ReadsReply (ask.PartCopy bucket key upload number from_bucket from_key etag range) doc said))
part_copy_refused bucket key upload number from_bucket from_key etag range doc fault says = Tells-map fault (λ none. no_part_copy bucket key upload number from_bucket from_key etag range doc none) says

no_create : (bucket key : List ℕ) (content : Option (List ℕ)) (doc : List ℕ) → ((id : List ℕ) → ¬ (IsCreated doc id)) → (said : Reply) → ¬ (ReadsReply (ask.Create bucket key content) doc said)
no_create bucket key content doc none (reply.Created upload) h = none upload h
no_create bucket key content doc none said h = absurd h

pub create_refused : (bucket key : List ℕ) (content : Option (List ℕ)) (doc : List ℕ) (fault : DocFault) → Tells fault ((id : List ℕ) → ¬ (IsCreated doc id)) → Tells fault ((said : Reply) → ¬ (ReadsReply (ask.Create bucket key content) doc said))
create_refused bucket key content doc fault says = Tells-map fault (λ none. no_create bucket key content doc none) says

no_complete : (bucket key upload : List ℕ) (etags : Reserved (List ℕ)) (fresh : Bool) (doc : List ℕ) → ((whole : List ℕ) → ¬ (IsCompleted doc whole)) → (said : Reply) → ¬ (ReadsReply (ask.Complete bucket key upload etags fresh) doc said)
no_complete bucket key upload etags fresh doc none reply.Completed h = none h.0 h.1
no_complete bucket key upload etags fresh doc none said h = absurd h

pub complete_refused : (bucket key upload : List ℕ) (etags : Reserved (List ℕ)) (fresh : Bool) (doc : List ℕ) (fault : DocFault) → Tells fault ((whole : List ℕ) → ¬ (IsCompleted doc whole)) → Tells fault ((said : Reply) → ¬ (ReadsReply (ask.Complete bucket key upload etags fresh) doc said))
complete_refused bucket key upload etags fresh doc fault says = Tells-map fault (λ none. no_complete bucket key upload etags fresh doc none) says

no_list : (bucket prefix : List ℕ) (delimited : Bool) (token : Option (List ℕ)) (doc : List ℕ) → ((page : Listed) → ¬ (IsListing doc page)) → (said : Reply) → ¬ (ReadsReply (ask.List bucket prefix delimited token) doc said)
no_list bucket prefix delimited token doc none (reply.Listed page) h = none page h
no_list bucket prefix delimited token doc none said h = absurd h

pub list_refused : (bucket prefix : List ℕ) (delimited : Bool) (token : Option (List ℕ)) (doc : List ℕ) (fault : DocFault) → Tells fault ((page : Listed) → ¬ (IsListing doc page)) → Tells fault ((said : Reply) → ¬ (ReadsReply (ask.List bucket prefix delimited token) doc said))
list_refused bucket prefix delimited token doc fault says = Tells-map fault (λ none. no_list bucket prefix delimited token doc none) says

no_buckets : (doc : List ℕ) → ((entries : List Entry) → ¬ (IsBucketList doc entries)) → (said : Reply) → ¬ (ReadsReply ask.Buckets doc said)
no_buckets doc none (reply.BucketList buckets) h = none buckets.items h
no_buckets doc none said h = absurd h

pub buckets_refused : (doc : List ℕ) (fault : DocFault) → Tells fault ((entries : List Entry) → ¬ (IsBucketList doc entries)) → Tells fault ((said : Reply) → ¬ (ReadsReply ask.Buckets doc said))
buckets_refused doc fault says = Tells-map fault (λ none. no_buckets doc none) says

-- ---- a 2xx that lacks its document

-- neither a reply nor an error reads
pub unread : (asked : Ask) (answered : Answered) → IsTwoHundred answered.status → NeedsDocument asked → ((said : Reply) → ¬ (ReadsReply asked answered.body.bytes said))
    → ((code message : List ℕ) → ¬ (MayFailLate asked × ReadsError answered.body.bytes code message)) → IsClassed asked answered (class.Uncertain why.Document)
unread asked answered fine needs none no_error = inl (row.unreadable fine (λ said h. none said (of_document asked answered answered.body.bytes said needs h)) no_error)

pub never_late : (asked : Ask) (answered : Answered) → IsTwoHundred answered.status → NeedsDocument asked → ((said : Reply) → ¬ (ReadsReply asked answered.body.bytes said))
    → (MayFailLate asked → ⊥) → IsClassed asked answered (class.Uncertain why.Document)
never_late asked answered fine needs none never = unread asked answered fine needs none (λ c m fails. never fails.0)

pub no_error : (asked : Ask) (answered : Answered) → IsTwoHundred answered.status → NeedsDocument asked → ((said : Reply) → ¬ (ReadsReply asked answered.body.bytes said))
    → ((error : List ℕ × List ℕ) → ¬ (ReadsError answered.body.bytes error.0 error.1)) → IsClassed asked answered (class.Uncertain why.Document)
no_error asked answered fine needs none no_document = unread asked answered fine needs none (λ c m fails. no_document (c, m) fails.1)

pub late : (asked : Ask) (answered : Answered) (code message : List ℕ) (shown : Class) → IsTwoHundred answered.status → MayFailLate asked → ReadsError answered.body.bytes code message
    → IsLateClass code message shown → IsClassed asked answered shown
late asked answered code message shown fine may error (inl is) =
    subst (λ (c : Class). IsClassed asked answered c) (sym is.0) (inl (row.failed_late code message fine (may, error) is.1))
late asked answered code message shown fine may error (inr is) =
    subst (λ (c : Class). IsClassed asked answered c) (sym is.0)
    (inl (row.failed_inside message fine (may, subst (λ (c : List ℕ). ReadsError answered.body.bytes c message) is.1 error)))
