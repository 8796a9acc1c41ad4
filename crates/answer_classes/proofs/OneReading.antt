-- A document is one error at most, one reply to a request at most, and not both.
use Rattle.std.proofs.Common.{◌≡◌, ◌<◌, ℕ, Bool, true, List, Option, length, refl, sym, ap, arith}
use Rattle.std.specs.Prelude.{codes}
use Rattle.s3_model.specs.Lists.{Reserved}
use Rattle.s3_model.specs.declared.requests.Ask.{Ask}
use Rattle.s3_model.specs.declared.requests.Ask.TheVariants as ask
use Rattle.s3_model.specs.declared.answers.Reply.{Reply}
use Rattle.s3_model.specs.declared.answers.Reply.TheVariants as reply
use Rattle.s3_model.specs.Classes.{HasOneReading}
use Rattle.s3_model.specs.Replies.{IsSameReply}
use Rattle.reply_xml.specs.declared.elements.Element.TheVariants as element
use Rattle.reply_xml.specs.Children.{HasLeaf, HasOnly, IsPlain}
use Rattle.reply_xml.specs.Contents.{Content}
use Rattle.reply_xml.specs.Documents.{BeginsDocument, IsOf}
use Rattle.reply_xml.proofs.DocumentLemmas.{root_at}
use Rattle.reply_xml.proofs.TagLemmas.{ReadsTag-same}
use Rattle.s3_replies.specs.Buckets.{HasBuckets}
use Rattle.s3_replies.specs.Listing.{HasPage}
use Rattle.s3_replies.proofs.OneValueLemmas.{one_bucket_list, one_entity_tag, one_error, one_listing, one_upload}
use Rattle.answer_classes.specs.Documents.{ReadsError, ReadsReply}

-- a document has one root
one_root : (root other bytes rest left : List ℕ) (closed shut : Bool) → BeginsDocument root bytes closed rest → BeginsDocument other bytes shut left → other ≡ root
one_root root other bytes rest left closed shut r s =
    let tag = root_at other bytes r.before.0 r.at_declaration r.at_space r.between.0 r.at_root left shut r.before.1 r.declared r.between.1 s in
    (ReadsTag-same closed shut root other r.at_root rest left r.tag tag).1

-- no Error document has another root
root_of_error : {V : Type 0} (Means : Content → V → Type 0) (root doc code message : List ℕ) (value : V) → ReadsError doc code message → IsOf root Means doc value → length root ≡ 5
root_of_error Means root doc code message value error d =
    ap length (one_root (codes "Error") root doc error.1.at_content d.1.at_content error.1.closed d.1.closed error.1.begins d.1.begins)

longer : (n : ℕ) → n ≡ 5 → 5 < n → ⊥
longer n e h = omega (arith, e, h)

not_both : (asked : Ask) (doc code message : List ℕ) (said : Reply) → ReadsError doc code message → ReadsReply asked doc said → ⊥
not_both (ask.Copy bucket key from_bucket from_key etag) doc code message reply.Copied e h = longer 16 (root_of_error (HasLeaf element.ETag) (codes "CopyObjectResult") doc code message h.0 e h.1) (omega arith)
not_both (ask.PartCopy bucket key upload number from_bucket from_key etag range) doc code message (reply.PartStored stored) e h =
    longer 14 (root_of_error (HasLeaf element.ETag) (codes "CopyPartResult") doc code message stored e h) (omega arith)
not_both (ask.Create bucket key content) doc code message (reply.Created upload) e h = longer 29 (root_of_error (HasLeaf element.UploadId) (codes "InitiateMultipartUploadResult") doc code message upload e h) (omega arith)
not_both (ask.Complete bucket key upload etags fresh) doc code message reply.Completed e h =
    longer 29 (root_of_error (HasOnly IsPlain element.ETag) (codes "CompleteMultipartUploadResult") doc code message h.0 e h.1) (omega arith)
not_both (ask.List bucket prefix delimited token) doc code message (reply.Listed page) e h = longer 16 (root_of_error HasPage (codes "ListBucketResult") doc code message h.0 e h.1) (omega arith)
not_both ask.Buckets doc code message (reply.BucketList buckets) e h = longer 22 (root_of_error HasBuckets (codes "ListAllMyBucketsResult") doc code message buckets.items e h) (omega arith)
not_both asked doc code message said e h = absurd h

one_copy : (bucket key from_bucket from_key etag doc : List ℕ) (said same : Reply) → ReadsReply (ask.Copy bucket key from_bucket from_key etag) doc said → ReadsReply (ask.Copy bucket key from_bucket from_key etag) doc same
    → IsSameReply said same
one_copy bucket key from_bucket from_key etag doc reply.Copied reply.Copied h k = refl
one_copy bucket key from_bucket from_key etag doc reply.Copied same h k = absurd k
one_copy bucket key from_bucket from_key etag doc said same h k = absurd h

one_part_copy : (bucket key upload : List ℕ) (number : ℕ) (from_bucket from_key etag : List ℕ) (range : ℕ × ℕ) (doc : List ℕ) (said same : Reply)
    → ReadsReply (ask.PartCopy bucket key upload number from_bucket from_key etag range) doc said → ReadsReply (ask.PartCopy bucket key upload number from_bucket from_key etag range) doc same → IsSameReply said same
one_part_copy bucket key upload number from_bucket from_key etag range doc (reply.PartStored a) (reply.PartStored b) h k = ap reply.PartStored (sym ((one_entity_tag doc a b).1 true h k))
one_part_copy bucket key upload number from_bucket from_key etag range doc (reply.PartStored a) same h k = absurd k
one_part_copy bucket key upload number from_bucket from_key etag range doc said same h k = absurd h

one_create : (bucket key : List ℕ) (content : Option (List ℕ)) (doc : List ℕ) (said same : Reply) → ReadsReply (ask.Create bucket key content) doc said → ReadsReply (ask.Create bucket key content) doc same
    → IsSameReply said same
one_create bucket key content doc (reply.Created a) (reply.Created b) h k = ap reply.Created (sym (one_upload doc a b h k))
one_create bucket key content doc (reply.Created a) same h k = absurd k
one_create bucket key content doc said same h k = absurd h

one_complete : (bucket key upload : List ℕ) (etags : Reserved (List ℕ)) (fresh : Bool) (doc : List ℕ) (said same : Reply) → ReadsReply (ask.Complete bucket key upload etags fresh) doc said
    → ReadsReply (ask.Complete bucket key upload etags fresh) doc same → IsSameReply said same
one_complete bucket key upload etags fresh doc reply.Completed reply.Completed h k = refl
one_complete bucket key upload etags fresh doc reply.Completed same h k = absurd k
one_complete bucket key upload etags fresh doc said same h k = absurd h

one_page : (bucket prefix : List ℕ) (delimited : Bool) (token : Option (List ℕ)) (doc : List ℕ) (said same : Reply) → ReadsReply (ask.List bucket prefix delimited token) doc said
    → ReadsReply (ask.List bucket prefix delimited token) doc same → IsSameReply said same
one_page bucket prefix delimited token doc (reply.Listed a) (reply.Listed b) h k =
    let same = one_listing doc a b h k in (sym same.entries, sym same.prefixes, sym same.more, sym same.token)
one_page bucket prefix delimited token doc (reply.Listed a) same h k = absurd k
one_page bucket prefix delimited token doc said same h k = absurd h

one_list : (doc : List ℕ) (said same : Reply) → ReadsReply ask.Buckets doc said → ReadsReply ask.Buckets doc same → IsSameReply said same
one_list doc (reply.BucketList a) (reply.BucketList b) h k = sym (one_bucket_list doc a.items b.items h k)
one_list doc (reply.BucketList a) same h k = absurd k
one_list doc said same h k = absurd h

one_reply : (asked : Ask) (doc : List ℕ) (said same : Reply) → ReadsReply asked doc said → ReadsReply asked doc same → IsSameReply said same
one_reply (ask.Copy bucket key from_bucket from_key etag) doc said same h k = one_copy bucket key from_bucket from_key etag doc said same h k
one_reply (ask.PartCopy bucket key upload number from_bucket from_key etag range) doc said same h k = one_part_copy bucket key upload number from_bucket from_key etag range doc said same h k
one_reply (ask.Create bucket key content) doc said same h k = one_create bucket key content doc said same h k
one_reply (ask.Complete bucket key upload etags fresh) doc said same h k = one_complete bucket key upload etags fresh doc said same h k
one_reply (ask.List bucket prefix delimited token) doc said same h k = one_page bucket prefix delimited token doc said same h k
one_reply ask.Buckets doc said same h k = one_list doc said same h k
one_reply asked doc said same h k = absurd h

pub one_reading : HasOneReading ReadsError ReadsReply
one_reading = record {
  one_error = λ doc code message c m e f. let same = one_error doc (code, message) (c, m) e f in (sym (ap (λ (p : List ℕ × List ℕ). p.0) same), sym (ap (λ (p : List ℕ × List ℕ). p.1) same));
  one_reply = one_reply;
  not_both = not_both;
}
