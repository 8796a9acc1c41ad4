-- Where a document has a fault: what stands in front reads as texts and elements, and what stands here is none of the
-- grammar, has a bad reference, or is a text out of the form of its element.
use Rattle.std.specs.Prelude.{◌≡◌, ◌≢◌, ◌-◌, ◌⊎◌, ⊤, ℕ, false, Result, Ok, Err, List, [], ◌∷◌, length}
use Rattle.std.specs.Prelude.{Option, Some, None}
use Rattle.reply_xml.specs.declared.elements.Element.{Element}
use Rattle.reply_xml.specs.declared.runs.Sort.TheVariants as sort
use Rattle.reply_xml.specs.declared.faults.DocFault.{DocFault}
use Rattle.reply_xml.specs.declared.faults.DocFault.TheVariants as fault
use Rattle.reply_xml.specs.declared.tags.Child.{Child}
use Rattle.reply_xml.specs.declared.tags.Tag.{Tag}
use Rattle.reply_xml.specs.Contents.{ReadsText}
use Rattle.reply_xml.specs.Documents.{BeginsDocument, NamesRoot, ReadsSpace}
use Rattle.reply_xml.specs.Reading.{AtEnd, IsTagOf, NamesChild}
use Rattle.reply_xml.specs.Fits.{HoldsWell, ReadsWell}
use Rattle.std.specs.Str.{IsUtf8}
use Rattle.reply_values.specs.References.{GoesOn, IsUnescaped}
use Rattle.reply_xml.specs.Leaves.{HasBadReference, LeavesEndTag, LeavesStart, LeavesTagEnd, LeavesText}
use Rattle.reply_xml.specs.Places.{BeginsOtherwise, LacksDeclaration}
use Rattle.reply_xml.specs.Runs.{ReadsRun}
use Rattle.reply_xml.specs.Tables.{Done, IsAgain, IsFresh, IsOutside, IsParentOf, IsTextOf, Table, first_missing}
use Rattle.reply_xml.specs.Tags.{NameEnds, NamesTag}
use Rattle.reply_xml.specs.Unfit.{Form, HasText, IsFit, IsUnfit}

-- the fault stands where so many bytes are left of a document of this size
abbrev pub Stands : (size left : ℕ) → DocFault → Type 0
Stands size left reason = reason ≡ fault.NotADocument (size - left)

-- a text has a fault: it leaves the grammar, or has a bad reference, which the end of the bytes does not cut short
pub data BreaksText (size : ℕ) (reason : DocFault) (bytes : List ℕ) : Type 0 where
  Leaves : (left : ℕ) → LeavesText bytes left → Stands size left reason → BreaksText size reason bytes
  BadReference : (text rest : List ℕ) → ReadsRun sort.Text text bytes rest → HasBadReference text
      → (rest ≡ [] → IsUtf8 text → ¬ (GoesOn text)) → reason ≡ fault.BadEscape → BreaksText size reason bytes

-- What stands behind the tag of an element that is read as a text has a fault: the text leaves the grammar, or is whole
-- and out of the form of the element, or the end tag does not follow it.
pub data BreaksLeaf (size : ℕ) (reason : DocFault) (form : Form) (of : Element)
    (tag : Tag) (bytes : List ℕ) : Type 0 where
  InText : tag.closed ≡ false → BreaksText size reason bytes → BreaksLeaf size reason form of tag bytes
  Unfit : (text rest : List ℕ) → HasText tag bytes rest text → (tag.closed ≡ false → rest ≢ [])
      → IsUnfit form of text reason → BreaksLeaf size reason form of tag bytes
  NoEndBehind : (raw text end : List ℕ) (left : ℕ) → tag.closed ≡ false → ReadsText raw bytes end
      → IsUnescaped raw text → IsFit form of text → LeavesEndTag tag.name.now end left → Stands size left reason
      → BreaksLeaf size reason form of tag bytes

-- What stands behind the tag of an element has a fault, where these elements are read inside it and those stood in
-- front: at a text, at the tag of an element inside or behind its name, at an element that stands twice, inside an
-- element, at its text where that is read, behind the whole element, at the end tag, or where an element is missing
-- there. On the level below the sixteenth no element may stand. In an element that is passed over, none are read.
pub data BreaksIn (size : ℕ) (reason : DocFault) : Table → List (Option Element) → Tag → List ℕ → Type 0 where
  AtText : {table : Table} {front : List (Option Element)} {tag : Tag} {bytes : List ℕ} → tag.closed ≡ false
      → BreaksText size reason bytes → BreaksIn size reason table front tag bytes
  AtStart : {table : Table} {front : List (Option Element)} {tag : Tag} {bytes : List ℕ} (text at : List ℕ) (left : ℕ)
      → tag.closed ≡ false → ReadsText text bytes at → ((more : List ℕ) → ¬ (at ≡ 60 ∷ 47 ∷ more))
      → LeavesStart at left → Stands size left reason → BreaksIn size reason table front tag bytes
  TooLow : {table : Table} {front : List (Option Element)} {tag : Tag} {bytes : List ℕ} (text at name rest : List ℕ)
      → tag.closed ≡ false → ReadsText text bytes at → NamesTag name at rest → NameEnds rest → tag.room ≡ 0
      → reason ≡ fault.TooDeep → BreaksIn size reason table front tag bytes
  InTag : {table : Table} {front : List (Option Element)} {tag : Tag} {bytes : List ℕ} (child : Child) (from : List ℕ)
      (left : ℕ) → tag.closed ≡ false → NamesChild tag.room bytes child from → IsFresh table front child.element
      → LeavesTagEnd from left → Stands size left reason → BreaksIn size reason table front tag bytes
  Again : {table : Table} {front : List (Option Element)} {tag : Tag} {bytes : List ℕ} (child : Child) (of : Element)
      (from : List ℕ) → tag.closed ≡ false → NamesChild tag.room bytes child from → IsAgain table front child.element of
      → reason ≡ fault.Twice of → BreaksIn size reason table front tag bytes
  InLeaf : {table : Table} {front : List (Option Element)} {tag : Tag} {bytes : List ℕ} (child : Child) (inner : Tag)
      (form : Form) (of : Element) (from at : List ℕ) → tag.closed ≡ false → NamesChild tag.room bytes child from
      → IsFresh table front child.element → IsTagOf child inner from at → IsTextOf table child.element of form
      → BreaksLeaf size reason form of inner at
      → BreaksIn size reason table front tag bytes
  Inside : {table : Table} {front : List (Option Element)} {tag : Tag} {bytes : List ℕ} (child : Child) (inner : Tag)
      (of : Element) (inside : Table) (from at : List ℕ) → tag.closed ≡ false → NamesChild tag.room bytes child from
      → IsFresh table front child.element → IsTagOf child inner from at → IsParentOf table child.element of inside
      → BreaksIn size reason inside [] inner at
      → BreaksIn size reason table front tag bytes
  InOther : {table : Table} {front : List (Option Element)} {tag : Tag} {bytes : List ℕ} (child : Child) (inner : Tag)
      (from at : List ℕ) → tag.closed ≡ false → NamesChild tag.room bytes child from → IsTagOf child inner from at
      → IsOutside table child.element → BreaksIn size reason Done [] inner at
      → BreaksIn size reason table front tag bytes
  Behind : {table : Table} {front : List (Option Element)} {tag : Tag} {bytes : List ℕ} (child : Child)
      (from next : List ℕ) → tag.closed ≡ false → NamesChild tag.room bytes child from
      → ReadsWell table front child from next → BreaksIn size reason table (child.element ∷ front) tag next
      → BreaksIn size reason table front tag bytes
  AtEndTag : {table : Table} {front : List (Option Element)} {tag : Tag} {bytes : List ℕ} (at : List ℕ) (left : ℕ)
      → tag.closed ≡ false → AtEnd tag bytes at → first_missing table front ≡ None
      → LeavesEndTag tag.name.now at left → Stands size left reason
      → BreaksIn size reason table front tag bytes
  Lacks : {table : Table} {front : List (Option Element)} {tag : Tag} {bytes : List ℕ} (of : Element) (at : List ℕ)
      → AtEnd tag bytes at → first_missing table front ≡ Some of → reason ≡ fault.Missing of
      → BreaksIn size reason table front tag bytes

-- what stands behind the name of an element has a fault: the element stands again, or the fault is in its tag, or
-- behind that
pub data BreaksElement (size : ℕ) (reason : DocFault) (table : Table) (front : List (Option Element)) (child : Child)
    (bytes : List ℕ) : Type 0 where
  BehindName : (left : ℕ) → IsFresh table front child.element → LeavesTagEnd bytes left → Stands size left reason
      → BreaksElement size reason table front child bytes
  StandsAgain : (of : Element) → IsAgain table front child.element of → reason ≡ fault.Twice of
      → BreaksElement size reason table front child bytes
  BehindLeafTag : (tag : Tag) (form : Form) (of : Element) (at : List ℕ) → IsFresh table front child.element
      → IsTagOf child tag bytes at → IsTextOf table child.element of form → BreaksLeaf size reason form of tag at
      → BreaksElement size reason table front child bytes
  BehindTag : (tag : Tag) (of : Element) (inside : Table) (at : List ℕ) → IsFresh table front child.element
      → IsTagOf child tag bytes at → IsParentOf table child.element of inside → BreaksIn size reason inside [] tag at
      → BreaksElement size reason table front child bytes
  BehindOtherTag : (tag : Tag) (at : List ℕ) → IsTagOf child tag bytes at → IsOutside table child.element
      → BreaksIn size reason Done [] tag at → BreaksElement size reason table front child bytes

-- the tag of the root stands in front, and this follows
pub record HasRoot (root doc : List ℕ) (tag : Tag) (rest : List ℕ) : Type 0 where
  pub begins : BeginsDocument root doc tag.closed rest
  pub room : tag.room ≡ 15
  pub name : tag.name.now ≡ root

-- a document has a fault, whose root has these elements: it begins with no such root, or the fault stands in its tag,
-- inside it, or behind it
pub data Breaks (root : List ℕ) (table : Table) (doc : List ℕ) (reason : DocFault) : Type 0 where
  NoRoot : (place : ℕ) → BeginsOtherwise root doc place ⊎ LacksDeclaration doc place
      → reason ≡ fault.NotADocument place → Breaks root table doc reason
  InRootTag : (at : List ℕ) (left : ℕ) → NamesRoot root doc at → LeavesTagEnd at left → Stands (length doc) left reason
      → Breaks root table doc reason
  InRoot : (tag : Tag) (rest : List ℕ) → HasRoot root doc tag rest → BreaksIn (length doc) reason table [] tag rest
      → Breaks root table doc reason
  BehindRoot : (tag : Tag) (rest at more : List ℕ) → HasRoot root doc tag rest → HoldsWell table tag rest at
      → ReadsSpace at more → more ≢ [] → Stands (length doc) (length more) reason → Breaks root table doc reason

-- the claim, where a fault is not want of memory
abbrev pub OnBroken : DocFault → (DocFault → Type 0) → Type 0
OnBroken fault.Memory Claim = ⊤
OnBroken other Claim = Claim other

abbrev pub IfBroken : {T : Type 0} → Result T DocFault → (DocFault → Type 0) → Type 0
IfBroken (Ok value) Claim = ⊤
IfBroken (Err reason) Claim = OnBroken reason Claim

-- the fault is the first element that is missing
abbrev pub IsMissing : Table → List (Option Element) → DocFault → Type 0
IsMissing table front reason = (of : Element) × (reason ≡ fault.Missing of) × (first_missing table front ≡ Some of)
