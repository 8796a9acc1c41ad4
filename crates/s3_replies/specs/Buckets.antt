-- The list of buckets (Amazon S3 API Reference, ListBuckets).
use Rattle.std.specs.Prelude.{◌≡◌, ℕ, List, [], Option, Some, None, codes}
use Rattle.s3_model.specs.Lists.{Reserved}
use Rattle.s3_model.specs.declared.places.Entry.{Entry}
use Rattle.reply_xml.specs.declared.elements.Element.{Element}
use Rattle.reply_xml.specs.declared.elements.Element.TheVariants as element
use Rattle.reply_xml.specs.Contents.{Content, named}
use Rattle.reply_xml.specs.Children.{Each, HasLeaf, IsFormed, IsLeafOf, Once}
use Rattle.reply_xml.specs.Documents.{IsOf}
use Rattle.reply_xml.specs.Reading.{EachLeft, LeafLeft, OnceLeft}
use Rattle.reply_xml.specs.Tables.{AnyNumber, Done, ExactlyOnce, IsFound, Row, Table}
use Rattle.reply_xml.specs.Unfit.{ATime, OwnForm}
use Rattle.reply_values.specs.Times.{SpellsTime}

-- a bucket: its name, and when it was made; it has no size and no entity tag
pub record HasBucket (content : Content) (entry : Entry) : Type 0 where
  pub name : HasLeaf element.Name content entry.key
  pub created : Once (IsLeafOf SpellsTime) (named element.CreationDate content) entry.micros
  pub size : entry.size ≡ 0
  pub etag : entry.etag ≡ []

-- the buckets, in order
abbrev pub HasEachBucket : Content → List Entry → Type 0
HasEachBucket content entries = Each HasBucket (named element.Bucket content) entries

abbrev pub HasBuckets : Content → List Entry → Type 0
HasBuckets content entries = Once HasEachBucket (named element.Buckets content) entries

abbrev pub IsBucketList : List ℕ → List Entry → Type 0
IsBucketList = IsOf (codes "ListAllMyBucketsResult") HasBuckets

-- what is left to be found of one bucket, of the buckets, and of their list
abbrev pub BucketLeft : Option (List ℕ) → Option ℕ → Content → List ℕ × ℕ → Type 0
BucketLeft name created content value =
    LeafLeft (IsFormed element.Name) element.Name name content value.0
    × LeafLeft SpellsTime element.CreationDate created content value.1

abbrev pub BucketsLeft : List Entry → Content → List Entry → Type 0
BucketsLeft rows content entries = EachLeft HasBucket rows (named element.Bucket content) entries

abbrev pub ListLeft : Option (Reserved Entry) → Content → List Entry → Type 0
ListLeft None content entries = OnceLeft HasEachBucket None (named element.Buckets content) entries
ListLeft (Some rows) content entries = OnceLeft HasEachBucket (Some rows.items) (named element.Buckets content) entries

-- the elements of a bucket, of the buckets, and of their list
abbrev pub bucket_table : Table
bucket_table =
    Row element.Name ExactlyOnce (Some OwnForm) Done (Row element.CreationDate ExactlyOnce (Some ATime) Done Done)

abbrev pub buckets_table : Table
buckets_table = Row element.Bucket AnyNumber None bucket_table Done

abbrev pub bucket_list_table : Table
bucket_list_table = Row element.Buckets ExactlyOnce None buckets_table Done

-- those of a bucket that stood in front were found
abbrev pub KnowsBucket : Option (List ℕ) → Option ℕ → List (Option Element) → Type 0
KnowsBucket name created front = IsFound element.Name name front × IsFound element.CreationDate created front
