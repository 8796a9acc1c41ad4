-- A page of a listing (Amazon S3 API Reference, ListObjectsV2).
use Rattle.std.specs.Prelude.{◌≡◌, ℕ, Bool, true, false, List, [], ◌∷◌, Option, Some, None, codes}
use Rattle.std.specs.List.{AllZip}
use Rattle.s3_model.specs.declared.answers.Listed.{Listed}
use Rattle.s3_model.specs.declared.places.Entry.{Entry}
use Rattle.reply_xml.specs.declared.elements.Element.{Element}
use Rattle.reply_xml.specs.declared.elements.Element.TheVariants as element
use Rattle.reply_xml.specs.Contents.{Content, named}
use Rattle.reply_xml.specs.Children.{AtMostOnce, Each, HasLeaf, HasOnly, IsFormed, IsLeaf, IsLeafOf, Once}
use Rattle.reply_xml.specs.Documents.{IsOf}
use Rattle.reply_values.specs.Forms.{IsKey}
use Rattle.reply_values.specs.Numbers.{SpellsNumber, SpellsTruth}
use Rattle.reply_xml.specs.Reading.{AtMostLeft, EachLeft, LeafLeft}
use Rattle.reply_xml.specs.Tables.{AnyNumber, AtMostOne, Done, ExactlyOnce, IsFound, Row, Table, stood}
use Rattle.reply_xml.specs.Unfit.{AKey, ANumber, APrefix, ATime, ATruth, AnEncoding, Form, OwnForm}
use Rattle.reply_values.specs.Times.{SpellsTime}
use Rattle.reply_values.specs.UrlText.{MeansText}
use Rattle.s3_replies.specs.declared.keys.Keys.{Keys}
use Rattle.s3_replies.specs.declared.keys.Keys.TheVariants as keys

-- an object as it is listed, with its key as it is written there; Spells says which keys are taken
pub record HasObjectBy (Spells : List ℕ → List ℕ → Type 0) (content : Content) (entry : Entry) : Type 0 where
  pub key : HasOnly Spells element.Key content entry.key
  pub modified : Once (IsLeafOf SpellsTime) (named element.LastModified content) entry.micros
  pub etag : HasLeaf element.ETag content entry.etag
  pub size : Once (IsLeafOf SpellsNumber) (named element.Size content) entry.size

abbrev pub HasObject : Content → Entry → Type 0
HasObject = HasObjectBy (IsFormed element.Key)

-- keys are written as URLs where the encoding is named, and `url` is the only one
abbrev pub HasEncoding : List Content → Bool → Type 0
HasEncoding contents false = contents ≡ []
HasEncoding contents true = (content : Content) × (contents ≡ content ∷ []) × IsLeaf content (codes "url")

-- a page as it is written
pub record Page : Type 0 where
  pub more : Bool
  pub token : Option (List ℕ)
  pub url : Bool
  pub entries : List Entry
  pub prefixes : List (List ℕ)

-- a page whose keys and prefixes are of those that are taken
pub record HasPageBy (SpellsKey SpellsPrefix : List ℕ → List ℕ → Type 0)
    (content : Content) (page : Page) : Type 0 where
  pub more : Once (IsLeafOf SpellsTruth) (named element.IsTruncated content) page.more
  pub token : AtMostOnce (IsLeafOf (IsFormed element.NextContinuationToken))
      (named element.NextContinuationToken content) page.token
  pub encoding : HasEncoding (named element.EncodingType content) page.url
  pub entries : Each (HasObjectBy SpellsKey) (named element.Contents content) page.entries
  pub prefixes : Each (HasOnly SpellsPrefix element.Prefix) (named element.CommonPrefixes content) page.prefixes

abbrev pub HasPage : Content → Page → Type 0
HasPage = HasPageBy (IsFormed element.Key) (IsFormed element.Prefix)

-- a document with this page, as it is written
abbrev pub IsWritten : List ℕ → Page → Type 0
IsWritten = IsOf (codes "ListBucketResult") HasPage

-- an entry, by its written key
pub record MeansEntry (url : Bool) (written entry : Entry) : Type 0 where
  pub key : MeansText url written.key entry.key
  pub form : IsKey entry.key
  pub size : entry.size ≡ written.size
  pub etag : entry.etag ≡ written.etag
  pub micros : entry.micros ≡ written.micros

-- what a page says
pub record MeansPage (page : Page) (listed : Listed) : Type 0 where
  pub more : listed.more ≡ page.more
  pub token : listed.token ≡ page.token
  pub entries : AllZip (MeansEntry page.url) page.entries listed.entries.items
  pub prefixes : AllZip (MeansText page.url) page.prefixes listed.prefixes.items

-- what stands in the root is a page that says this
abbrev pub HasListing : Content → Listed → Type 0
HasListing content listed = (page : Page) × HasPage content page × MeansPage page listed

-- the document is a page that says this
abbrev pub IsListing : List ℕ → Listed → Type 0
IsListing bytes listed = (page : Page) × IsWritten bytes page × MeansPage page listed

-- a key as it is written, which means one
abbrev pub IsWrittenKey : Bool → List ℕ → List ℕ → Type 0
IsWrittenKey url text written = (written ≡ text) × ((key : List ℕ) × MeansText url text key × IsKey key)

-- a prefix as it is written, which means a text
abbrev pub IsWrittenPrefix : Bool → List ℕ → List ℕ → Type 0
IsWrittenPrefix url text written = (written ≡ text) × ((meaning : List ℕ) × MeansText url text meaning)

-- the keys and prefixes that are taken, and their forms
abbrev pub SpellsKey : Keys → List ℕ → List ℕ → Type 0
SpellsKey keys.Written = IsFormed element.Key
SpellsKey keys.Plain = IsWrittenKey false
SpellsKey keys.Url = IsWrittenKey true

abbrev pub SpellsPrefix : Keys → List ℕ → List ℕ → Type 0
SpellsPrefix keys.Written = IsFormed element.Prefix
SpellsPrefix keys.Plain = IsWrittenPrefix false
SpellsPrefix keys.Url = IsWrittenPrefix true

-- how keys and prefixes are judged by the encoding
abbrev pub keys_of : Bool → Keys
keys_of false = keys.Plain
keys_of true = keys.Url

abbrev pub key_form : Keys → Form
key_form keys.Written = OwnForm
key_form keys.Plain = AKey false
key_form keys.Url = AKey true

abbrev pub prefix_form : Keys → Form
prefix_form keys.Written = OwnForm
prefix_form keys.Plain = APrefix false
prefix_form keys.Url = APrefix true

-- what is left to be found of the encoding, and of a page
abbrev pub EncodingLeft : Bool → Content → Bool → Type 0
EncodingLeft false content url = HasEncoding (named element.EncodingType content) url
EncodingLeft true content url = (named element.EncodingType content ≡ []) × (url ≡ true)

abbrev pub ObjectsLeft : (List ℕ → List ℕ → Type 0) → List Entry → Content → List Entry → Type 0
ObjectsLeft Spells rows content entries = EachLeft (HasObjectBy Spells) rows (named element.Contents content) entries

abbrev pub PrefixesLeft : (List ℕ → List ℕ → Type 0) → List (List ℕ) → Content → List (List ℕ) → Type 0
PrefixesLeft Spells rows content prefixes =
    EachLeft (HasOnly Spells element.Prefix) rows (named element.CommonPrefixes content) prefixes

abbrev pub PageLeft : (SpellsKey SpellsPrefix : List ℕ → List ℕ → Type 0) → Option Bool → Option (List ℕ) → Bool
    → List Entry → List (List ℕ) → Content → Page → Type 0
PageLeft SpellsKey SpellsPrefix more token url entries prefixes content page =
    (LeafLeft SpellsTruth element.IsTruncated more content page.more
    × AtMostLeft (IsFormed element.NextContinuationToken) element.NextContinuationToken token content page.token)
    × (EncodingLeft url content page.url
    × (ObjectsLeft SpellsKey entries content page.entries × PrefixesLeft SpellsPrefix prefixes content page.prefixes))

-- what is left to be found of an object
abbrev pub ObjectLeft : (Spells : List ℕ → List ℕ → Type 0) → Option (List ℕ) → Option ℕ → Option (List ℕ) → Option ℕ
    → Content → Entry → Type 0
ObjectLeft Spells key modified etag size content entry =
    (LeafLeft Spells element.Key key content entry.key
    × LeafLeft SpellsTime element.LastModified modified content entry.micros)
    × (LeafLeft (IsFormed element.ETag) element.ETag etag content entry.etag
    × LeafLeft SpellsNumber element.Size size content entry.size)

-- the elements of an object, of a prefix, and of a page, by the forms of keys and prefixes
abbrev pub object_table : Form → Table
object_table form =
    Row element.Key ExactlyOnce (Some form) Done
    (Row element.LastModified ExactlyOnce (Some ATime) Done
    (Row element.ETag ExactlyOnce (Some OwnForm) Done (Row element.Size ExactlyOnce (Some ANumber) Done Done)))

abbrev pub prefix_table : Form → Table
prefix_table form = Row element.Prefix ExactlyOnce (Some form) Done Done

abbrev pub page_table : (key prefix : Form) → Table
page_table key prefix =
    Row element.IsTruncated ExactlyOnce (Some ATruth) Done
    (Row element.EncodingType AtMostOne (Some AnEncoding) Done
    (Row element.NextContinuationToken AtMostOne (Some OwnForm) Done
    (Row element.Contents AnyNumber None (object_table key)
    (Row element.CommonPrefixes AnyNumber None (prefix_table prefix) Done))))

-- those that stood in front were found
abbrev pub KnowsObject : (key : Option (List ℕ)) (modified : Option ℕ) (etag : Option (List ℕ)) (size : Option ℕ)
    → List (Option Element) → Type 0
KnowsObject key modified etag size front =
    IsFound element.Key key front × IsFound element.LastModified modified front × IsFound element.ETag etag front
    × IsFound element.Size size front

abbrev pub KnowsPage : Option Bool → Option (List ℕ) → Bool → List (Option Element) → Type 0
KnowsPage more token url front =
    IsFound element.IsTruncated more front × IsFound element.NextContinuationToken token front
    × (url ≡ stood element.EncodingType front)
