-- A document of each sort has one value.
use Rattle.std.proofs.Common.{◌≡◌, ◌∙◌, ℕ, Bool, List, [], ◌∷◌, sym, refl, subst, ap, codes, unwrap_or}
use Rattle.std.specs.List.{AllZip}
use Rattle.s3_model.specs.declared.places.Entry.{Entry}
use Rattle.reply_xml.specs.declared.elements.Element.TheVariants as element
use Rattle.s3_replies.specs.Buckets.{HasBuckets, HasEachBucket}
use Rattle.reply_xml.specs.Children.{HasLeaf, HasOnly, IsFormed, IsLeafOf, IsPlain}
use Rattle.reply_xml.specs.Contents.{Content, named}
use Rattle.s3_replies.specs.Errors.{HasError}
use Rattle.s3_replies.specs.Listing.{MeansEntry, Page}
use Rattle.s3_replies.specs.OneValue.{OneBucketList, OneEntityTag, OneError, OneListing, OneUpload}
use Rattle.s3_replies.specs.Results.{copy_root}
use Rattle.s3_replies.proofs.BucketLemmas.{HasEachBucket-same}
use Rattle.reply_xml.proofs.ChildLemmas.{IsFormed-same, IsLeafOf-same, Once-same, leaf_same}
use Rattle.s3_replies.proofs.EntryLemmas.{entries_same}
use Rattle.s3_replies.proofs.ListingLemmas.{at_most_same, IsWritten-same}
use Rattle.s3_replies.proofs.PageLemmas.{HasLeaf-same}
use Rattle.reply_values.specs.UrlText.{MeansText}
use Rattle.reply_values.proofs.UrlTextLemmas.{MeansText-same}
use Rattle.reply_xml.proofs.WholeLemmas.{IsOf-same}

pairs_same : {A B : Type 0} (a b : A × B) → b.0 ≡ a.0 → b.1 ≡ a.1 → b ≡ a
pairs_same a b e f = ap (λ x. (x, b.1)) e ∙ ap (λ y. (a.0, y)) f

HasError-same : (c : Content) (a b : List ℕ × List ℕ) → HasError c a → HasError c b → b ≡ a
HasError-same c a b r s =
    let messages =
    at_most_same (IsLeafOf (IsFormed element.Message))
    (IsLeafOf-same (IsFormed element.Message) (IsFormed-same element.Message))
    (named element.Message c) r.1.0 s.1.0 r.1.1 s.1.1 in
    pairs_same a b (HasLeaf-same element.Code c a.0 b.0 r.0 s.0) (s.1.2 ∙ ap (λ m. unwrap_or m []) messages ∙ sym r.1.2)

pub one_error : OneError
one_error doc a b r s = IsOf-same HasError (codes "Error") doc HasError-same a b r s

-- what each row means is one list
rows_same : {X Y : Type 0} (R : X → Y → Type 0) → ((x : X) (y z : Y) → R x y → R x z → z ≡ y)
    → (xs : List X) (ys zs : List Y) → AllZip R xs ys → AllZip R xs zs → zs ≡ ys
rows_same R alone [] [] [] r s = refl
rows_same R alone [] [] (z ∷ zs) r s = absurd s
rows_same R alone [] (y ∷ ys) zs r s = absurd r
rows_same R alone (x ∷ xs) [] zs r s = absurd r
rows_same R alone (x ∷ xs) (y ∷ ys) [] r s = absurd s
rows_same R alone (x ∷ xs) (y ∷ ys) (z ∷ zs) r s = ap (λ v. v ∷ zs) (alone x y z r.0 s.0)
    ∙ ap (λ vs. y ∷ vs) (rows_same R alone xs ys zs r.1 s.1)

MeansEntry-same : (url : Bool) (row e f : Entry) → MeansEntry url row e → MeansEntry url row f → f ≡ e
MeansEntry-same url row e f r s =
    entries_same e f (MeansText-same url row.key e.key f.key r.key s.key) (s.size ∙ sym r.size) (s.etag ∙ sym r.etag)
    (s.micros ∙ sym r.micros)

pub one_listing : OneListing
one_listing doc a b r s =
    let same = IsWritten-same doc r.0 s.0 r.1 s.1 in
    record {
      more = s.2.more ∙ ap (λ (p : Page). p.more) same ∙ sym r.2.more;
      token = s.2.token ∙ ap (λ (p : Page). p.token) same ∙ sym r.2.token;
      entries = rows_same (MeansEntry r.0.url) (MeansEntry-same r.0.url) r.0.entries a.entries.items b.entries.items
          r.2.entries
          (subst (λ (p : Page). AllZip (MeansEntry p.url) p.entries b.entries.items) same s.2.entries);
      prefixes = rows_same (MeansText r.0.url) (MeansText-same r.0.url) r.0.prefixes a.prefixes.items b.prefixes.items
          r.2.prefixes
          (subst (λ (p : Page). AllZip (MeansText p.url) p.prefixes b.prefixes.items) same s.2.prefixes);
    }

HasBuckets-same : (c : Content) (a b : List Entry) → HasBuckets c a → HasBuckets c b → b ≡ a
HasBuckets-same c a b r s = Once-same HasEachBucket HasEachBucket-same (named element.Buckets c) a b r s

pub one_bucket_list : OneBucketList
one_bucket_list doc a b r s = IsOf-same HasBuckets (codes "ListAllMyBucketsResult") doc HasBuckets-same a b r s

pub one_upload : OneUpload
one_upload doc a b r s = IsOf-same (HasLeaf element.UploadId) (codes "InitiateMultipartUploadResult") doc
    (HasLeaf-same element.UploadId) a b r s

HasPlain-same : (c : Content) (v w : List ℕ) → HasOnly IsPlain element.ETag c v → HasOnly IsPlain element.ETag c w
    → w ≡ v
HasPlain-same c v w r s = leaf_same IsPlain (λ text x y a b. b ∙ sym a) (named element.ETag c) v w r s

pub one_entity_tag : OneEntityTag
one_entity_tag doc a b = (
  λ r s. IsOf-same (HasOnly IsPlain element.ETag) (codes "CompleteMultipartUploadResult") doc HasPlain-same a b r s,
  λ part r s. IsOf-same (HasLeaf element.ETag) (copy_root part) doc (HasLeaf-same element.ETag) a b r s,
)
