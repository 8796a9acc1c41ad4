-- Which encoding a page names for its keys and prefixes (Amazon S3 API Reference, ListObjectsV2).
use Rattle.std.specs.Prelude.{◌≡◌, ◌≢◌, ◌↔◌, ℕ, Bool, true, false, List, [], length, codes}
use Rattle.reply_xml.specs.declared.elements.Element.{Element}
use Rattle.reply_xml.specs.declared.elements.Element.TheVariants as element
use Rattle.reply_xml.specs.declared.tags.Child.{Child}
use Rattle.reply_xml.specs.declared.tags.Tag.{Tag}
use Rattle.reply_xml.specs.declared.faults.DocFault.{DocFault}
use Rattle.reply_xml.specs.Breaks.{Breaks}
use Rattle.reply_xml.specs.Contents.{is_the}
use Rattle.reply_xml.specs.Documents.{BeginsDocument}
use Rattle.reply_xml.specs.Reading.{IsTagOf, NamesChild, ReadsSome}
use Rattle.reply_xml.specs.Unfit.{AKey, APrefix, HasText}
use Rattle.s3_replies.specs.Listing.{page_table}

-- what stands behind the name of an element is its tag and this text, unescaped, with a tag behind it
pub record HasElementText (child : Child) (bytes text : List ℕ) : Type 0 where
  pub tag : Tag
  pub at : List ℕ
  pub ends : IsTagOf child tag bytes at
  pub rest : List ℕ
  pub has : HasText tag at rest text
  pub followed : tag.closed ≡ false → rest ≢ []

-- The first element of this name has this text. In front of it stand whole elements.
pub data FirstIs (of : Element) (room : ℕ) (text : List ℕ) : List ℕ → Type 0 where
  Found : {bytes : List ℕ} (child : Child) (from : List ℕ) → NamesChild room bytes child from
      → is_the of child.element ≡ true → HasElementText child from text → FirstIs of room text bytes
  Behind : {bytes : List ℕ} (child : Child) (from next : List ℕ) → NamesChild room bytes child from
      → is_the of child.element ≡ false → ReadsSome child from next → FirstIs of room text next
      → FirstIs of room text bytes

-- the first `EncodingType` in the root of a page is `url`, on however many levels elements stand in front of it
pub record NamesUrl (doc : List ℕ) : Type 0 where
  pub inside : List ℕ
  pub begins : BeginsDocument (codes "ListBucketResult") doc false inside
  pub first : FirstIs element.EncodingType (length doc) (codes "url") inside

-- A page has a fault, by the table in which keys and prefixes have the form of the encoding that the page names.
abbrev pub BreaksPage : List ℕ → DocFault → Type 0
BreaksPage doc reason =
    (url : Bool) × ((url ≡ true) ↔ NamesUrl doc)
    × Breaks (codes "ListBucketResult") (page_table (AKey url) (APrefix url)) doc reason
