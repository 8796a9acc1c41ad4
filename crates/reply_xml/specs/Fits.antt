-- Elements and contents in which no fault stands: what the table has there stands in its form, and as often as it may.
use Rattle.std.specs.Prelude.{◌≡◌, ℕ, List, [], ◌∷◌, Option, None}
use Rattle.reply_xml.specs.declared.elements.Element.{Element}
use Rattle.reply_xml.specs.declared.tags.Child.{Child}
use Rattle.reply_xml.specs.declared.tags.Tag.{Tag}
use Rattle.reply_xml.specs.Children.{IsLeaf}
use Rattle.reply_xml.specs.Contents.{Content, Only, Then, ReadsInner}
use Rattle.reply_xml.specs.Reading.{ReadsElement}
use Rattle.reply_xml.specs.Tables.{IsFresh, IsOutside, IsParentOf, IsTextOf, Table, first_missing}
use Rattle.reply_xml.specs.Unfit.{Form, IsFit}

-- No fault stands in an element: it is passed over, or its text is in its form, or it holds elements. Inside says that
-- no fault stands in what it holds, by the table of that.
pub data FitsChild (Inside : Table → Type 0) (table : Table) (front : List (Option Element))
    (child : Option Element) (inner : Content) : Type 0 where
  Passed : IsOutside table child → FitsChild Inside table front child inner
  IsText : (of : Element) (form : Form) (text : List ℕ) → IsFresh table front child → IsTextOf table child of form
      → IsLeaf inner text → IsFit form of text → FitsChild Inside table front child inner
  IsParent : (of : Element) (inside : Table) → IsFresh table front child → IsParentOf table child of inside
      → Inside inside → FitsChild Inside table front child inner

-- no fault stands in a content, in front of which these elements stood
abbrev pub Fits : Content → Table → List (Option Element) → Type 0
Fits (Only text) table front = first_missing table front ≡ None
Fits (Then text child inner more) table front =
    FitsChild (λ inside. Fits inner inside []) table front child inner × Fits more table (child ∷ front)

-- an element is read in which no fault stands
abbrev pub ReadsWell : Table → List (Option Element) → Child → List ℕ → List ℕ → Type 0
ReadsWell table front child bytes rest =
    (inner : Content) × ReadsElement child inner bytes rest
    × FitsChild (λ inside. Fits inner inside []) table front child.element inner

-- what is left of an element behind these elements is read, and no fault stands in it
abbrev pub GoesOnWell : Table → List (Option Element) → Tag → List ℕ → List ℕ → Type 0
GoesOnWell table front tag bytes rest =
    (inner : Content) × ReadsInner tag.closed inner tag.room tag.name.now bytes rest × Fits inner table front

-- what stands behind the tag of an element is read, and no fault stands in it
abbrev pub HoldsWell : Table → Tag → List ℕ → List ℕ → Type 0
HoldsWell table tag bytes rest = GoesOnWell table [] tag bytes rest
