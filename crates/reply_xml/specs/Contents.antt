-- Elements and what stands in them (XML 1.0, productions 39 and 43), as far as the documents use it.
use Rattle.std.specs.Prelude.{◌≡◌, ◌<◌, ◌-◌, ℕ, Bool, false, nat_eq, List, [], ◌∷◌, Option, Some, None, if◌then◌else◌}
use Rattle.std.specs.Bool.{MatchBool}
use Rattle.std.specs.Str.{IsUtf8}
use Rattle.reply_xml.specs.declared.elements.Element.{Element}
use Rattle.reply_xml.specs.declared.elements.Element.TheVariants as element
use Rattle.reply_xml.specs.declared.runs.Sort.TheVariants as sort
use Rattle.reply_xml.specs.Elements.{element_named}
use Rattle.reply_values.specs.References.{IsUnescaped}
use Rattle.reply_xml.specs.Runs.{ReadsRun}
use Rattle.reply_xml.specs.Tags.{ReadsTag, ReadsEndTag}

-- What stands between two tags: a text, or a text, an element, and what follows it. Texts are as they stand in the
-- bytes.
pub data Content : Type 0 where
  Only : (text : List ℕ) → Content
  Then : (text : List ℕ) (child : Option Element) (inner more : Content) → Content

-- characters up to the next `<`, in which every reference is one of a character
pub record ReadsText (text bytes rest : List ℕ) : Type 0 where
  pub run : ReadsRun sort.Text text bytes rest
  pub characters : IsUtf8 text
  pub meaning : List ℕ
  pub unescaped : IsUnescaped text meaning

-- a text and the tag of an element; Inside says what follows the tag
pub record ReadsChild (Inside : Bool → (name bytes rest : List ℕ) → Type 0)
    (text : List ℕ) (child : Option Element) (bytes rest : List ℕ) : Type 0 where
  pub at_tag : List ℕ
  pub before : ReadsText text bytes at_tag
  pub closed : Bool
  pub name : List ℕ
  pub at_inner : List ℕ
  pub tag : ReadsTag closed name at_tag at_inner
  pub known : child ≡ element_named name
  pub inside : Inside closed name at_inner rest

-- The content and the end tag of an element with this name. Inside it stand elements on at most `room` levels.
abbrev pub ReadsContent : Content → ℕ → (name bytes rest : List ℕ) → Type 0
ReadsContent (Only text) room name bytes rest =
    (at_end : List ℕ) × ReadsText text bytes at_end × ReadsEndTag name at_end rest
ReadsContent (Then text child inner more) room name bytes rest =
    (0 < room)
    × ((next : List ℕ)
    × ReadsChild (λ closed tag from to. MatchBool closed ((inner ≡ Only []) × (to ≡ from))
    (ReadsContent inner (room - 1) tag from to)) text child bytes next
    × ReadsContent more room name next rest)

-- what stands behind the tag of an element: nothing of its own where the tag is closed, else its content and its end
-- tag
abbrev pub ReadsInner : Bool → Content → ℕ → (name bytes rest : List ℕ) → Type 0
ReadsInner closed inner room name bytes rest =
    MatchBool closed ((inner ≡ Only []) × (rest ≡ bytes)) (ReadsContent inner room name bytes rest)

-- the place of an element in their table
abbrev pub row_of : Element → ℕ
row_of element.Code = 0
row_of element.Message = 1
row_of element.IsTruncated = 2
row_of element.EncodingType = 3
row_of element.NextContinuationToken = 4
row_of element.Contents = 5
row_of element.Key = 6
row_of element.LastModified = 7
row_of element.ETag = 8
row_of element.Size = 9
row_of element.CommonPrefixes = 10
row_of element.Prefix = 11
row_of element.Buckets = 12
row_of element.Bucket = 13
row_of element.Name = 14
row_of element.CreationDate = 15
row_of element.UploadId = 16

abbrev pub is_the : Element → Option Element → Bool
is_the wanted None = false
is_the wanted (Some child) = nat_eq (row_of wanted) (row_of child)

-- the contents of the elements of that name that stand in a content, in order; not those deeper inside
abbrev pub named : Element → Content → List Content
named wanted (Only text) = []
named wanted (Then text child inner more) = if is_the wanted child then inner ∷ named wanted more else named wanted more
