-- Where bytes leave a production: they read as its parts up to a place, and the next part does not stand there. The
-- place is told by the number of bytes that are left.
use Rattle.std.specs.Prelude.{◌≡◌, ◌≢◌, ◌≤◌, ◌<◌, ◌+◌, ◌-◌, ◌⊎◌, ◌++◌, ℕ, List, [], ◌∷◌, length, slice_index, take}
use Rattle.std.specs.Prelude.{codes, drop, if◌then◌else◌}
use Rattle.std.specs.Int.{is_in_range}
use Rattle.std.specs.Str.{IsUtf8, IsValidUpTo}
use Rattle.std.specs.Str.Lossy.{utf8_invalid_len, utf8_valid_len}
use Rattle.reply_values.specs.References.{GoesOn, IsBadReference, IsUnescaped}
use Rattle.reply_xml.specs.declared.runs.Sort.TheVariants as sort
use Rattle.reply_xml.specs.Documents.{EndsAt}
use Rattle.reply_xml.specs.Runs.{BeginsOutside, ReadsRun, is_name_byte}
use Rattle.reply_xml.specs.Tags.{NameEnds, NamesTag, ReadsAttributes, ReadsName}

-- the bytes do not begin with this one
abbrev pub Lacks : ℕ → List ℕ → Type 0
Lacks byte bytes = (more : List ℕ) → ¬ (bytes ≡ byte ∷ more)

-- no name stands here
pub record LeavesName (bytes : List ℕ) (left : ℕ) : Type 0 where
  pub outside : BeginsOutside is_name_byte bytes
  pub at : left ≡ length bytes

-- Where no character begins, so many bytes may be the front of one: none where the first byte begins no character, else
-- those that are replaced together (Unicode, section 3.9, U+FFFD substitution of maximal subparts).
abbrev pub begun_len : List ℕ → ℕ
begun_len bytes = if is_in_range 0xC2 0xF4 (slice_index bytes 0) then utf8_invalid_len bytes else 0

-- so many bytes of a text are the longest front with which one that is UTF-8 begins: its characters, and the front of
-- one more
abbrev pub IsAtFault : List ℕ → ℕ → Type 0
IsAtFault text size = size ≡ utf8_valid_len text + begun_len (drop (utf8_valid_len text) text)

-- one of the two quotes
abbrev pub IsQuote : ℕ → Type 0
IsQuote byte = (byte ≡ 34) ⊎ (byte ≡ 39)

-- a value in quotes does not stand here: no quote begins it, some of its bytes are not UTF-8, or no quote ends it
pub data LeavesValue (bytes : List ℕ) (left : ℕ) : Type 0 where
  NoQuote : Lacks 34 bytes → Lacks 39 bytes → left ≡ length bytes → LeavesValue bytes left
  NoValue : (quote size : ℕ) (inside value at : List ℕ) → IsQuote quote → bytes ≡ quote ∷ inside
      → ReadsRun (sort.Value quote) value inside at → ¬ (IsUtf8 value) → IsAtFault value size
      → left ≡ length inside - size → LeavesValue bytes left
  NoEndQuote : (quote : ℕ) (inside value at : List ℕ) → IsQuote quote → bytes ≡ quote ∷ inside
      → ReadsRun (sort.Value quote) value inside at → IsUtf8 value → Lacks quote at → left ≡ length at
      → LeavesValue bytes left

-- an attribute does not stand here: its name, the `=` or its value
pub data LeavesAttribute (bytes : List ℕ) (left : ℕ) : Type 0 where
  NoName : LeavesName bytes left → LeavesAttribute bytes left
  NoEquals : (name at : List ℕ) → ReadsName name bytes at → Lacks 61 at → left ≡ length at → LeavesAttribute bytes left
  BadValue : (name at value : List ℕ) → ReadsName name bytes at → at ≡ 61 ∷ value → LeavesValue value left
      → LeavesAttribute bytes left

-- behind white space neither the end of a tag stands nor an attribute
pub data LeavesAttributes (bytes : List ℕ) (left : ℕ) : Type 0 where
  NoSpace : (space at : List ℕ) → ReadsRun sort.Space space bytes at → Lacks 62 at → Lacks 47 at → space ≡ []
      → left ≡ length at → LeavesAttributes bytes left
  NoTagEnd : (space at last : List ℕ) → ReadsRun sort.Space space bytes at → at ≡ 47 ∷ last → Lacks 62 last
      → left ≡ length last → LeavesAttributes bytes left
  BadAttribute : (space at : List ℕ) → ReadsRun sort.Space space bytes at → Lacks 62 at → Lacks 47 at → space ≢ []
      → LeavesAttribute at left → LeavesAttributes bytes left

-- a tag does not go on like this behind its name and so many attributes
pub record LeavesTagEnd (bytes : List ℕ) (left : ℕ) : Type 0 where
  pub count : ℕ
  pub at : List ℕ
  pub attributes : ReadsAttributes count bytes at
  pub leaves : LeavesAttributes at left

-- no tag of an element begins here: no `<`, no name, or none that ends as one of a tag
pub data LeavesStart (bytes : List ℕ) (left : ℕ) : Type 0 where
  NoTag : Lacks 60 bytes → left ≡ length bytes → LeavesStart bytes left
  NoTagName : (more : List ℕ) → bytes ≡ 60 ∷ more → LeavesName more left → LeavesStart bytes left
  NoNameEnd : (name at : List ℕ) → NamesTag name bytes at → ¬ (NameEnds at) → left ≡ length at → LeavesStart bytes left

-- so many bytes at the front of a name, and no more, stand at the front of another one too
pub record IsCommonFront (name other : List ℕ) (size : ℕ) : Type 0 where
  pub within : size ≤ length name
  pub within_other : size ≤ length other
  pub same : (k : ℕ) → k < size → slice_index other k ≡ slice_index name k
  pub longest : size < length name → size < length other → slice_index other size ≢ slice_index name size

-- The end tag of an element with this name does not stand here: not its `<`, its `/`, a name or the `>`. Another name
-- is at fault behind the bytes that it has in common with this one.
pub data LeavesEndTag (name bytes : List ℕ) (left : ℕ) : Type 0 where
  NoEndTag : Lacks 60 bytes → left ≡ length bytes → LeavesEndTag name bytes left
  NoSlash : (more : List ℕ) → bytes ≡ 60 ∷ more → Lacks 47 more → left ≡ length more → LeavesEndTag name bytes left
  NoEndName : (more : List ℕ) → bytes ≡ 60 ∷ 47 ∷ more → LeavesName more left → LeavesEndTag name bytes left
  OtherName : (size : ℕ) (more found at : List ℕ) → bytes ≡ 60 ∷ 47 ∷ more → ReadsName found more at → found ≢ name
      → IsCommonFront found name size → left ≡ length more - size → LeavesEndTag name bytes left
  NoEnd : (more space at close : List ℕ) → bytes ≡ 60 ∷ 47 ∷ more → ReadsName name more at
      → ReadsRun sort.Space space at close → Lacks 62 close → left ≡ length close → LeavesEndTag name bytes left

-- the longest front of a text that is UTF-8: all of it, or what stands before the first byte at fault
abbrev pub IsFront : (front text : List ℕ) → Type 0
IsFront front text =
    ((front ≡ text) × IsUtf8 text) ⊎ ((place : ℕ) × IsValidUpTo text place × (front ≡ take place text))

-- the first bad reference of a text, before which nothing is at fault
abbrev pub HasBadReference : List ℕ → Type 0
HasBadReference text = (front : List ℕ) × (place : ℕ) × IsFront front text × IsBadReference front place

-- before the first byte of a text that is at fault each reference stands for a character
abbrev pub IsSound : List ℕ → Type 0
IsSound text = (front : List ℕ) × IsFront front text × ((meaning : List ℕ) × IsUnescaped front meaning)

-- A text does not stand here: no tag follows it, or some of its bytes are not UTF-8. No reference is bad before the
-- first of these, but the end of the bytes may cut one short.
pub data LeavesText (bytes : List ℕ) (left : ℕ) : Type 0 where
  NoTagBehind : (text : List ℕ) → ReadsRun sort.Text text bytes [] → IsUtf8 text → GoesOn text → left ≡ 0
      → LeavesText bytes left
  NotUtf8 : (size : ℕ) (text at : List ℕ) → ReadsRun sort.Text text bytes at → ¬ (IsUtf8 text) → IsSound text
      → IsAtFault text size → left ≡ length bytes - size → LeavesText bytes left

-- A declaration that begins here is not read: it does not open with `<?xml`, its end does not stand in the bytes, or what
-- stands before its end is not UTF-8.
pub data LeavesDeclaration (bytes : List ℕ) (left : ℕ) : Type 0 where
  NoOpening : (size : ℕ) (more : List ℕ) → bytes ≡ codes "<?" ++ more
      → ((after : List ℕ) → ¬ (bytes ≡ codes "<?xml" ++ after)) → IsCommonFront bytes (codes "<?xml") size
      → left ≡ length bytes - size → LeavesDeclaration bytes left
  NoClose : (size : ℕ) (after : List ℕ) → bytes ≡ codes "<?xml" ++ after → ((place : ℕ) → ¬ (EndsAt after place))
      → (IsUtf8 after → size ≡ length after) → (¬ (IsUtf8 after) → IsAtFault after size)
      → left ≡ length after - size → LeavesDeclaration bytes left
  NoCharacters : (size place : ℕ) (after : List ℕ) → bytes ≡ codes "<?xml" ++ after → EndsAt after place
      → ((k : ℕ) → k < place → ¬ (EndsAt after k)) → ¬ (IsUtf8 (take place after)) → IsAtFault (take place after) size
      → left ≡ length after - size → LeavesDeclaration bytes left
