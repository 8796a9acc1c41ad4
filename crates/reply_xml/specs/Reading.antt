-- What the reader finds at the front of what is left of a document.
use Rattle.std.specs.Prelude.{◌≡◌, ◌+◌, ◌++◌, ◌↔◌, ℕ, Bool, List, [], ◌∷◌, Option, Some, None}
use Rattle.std.specs.Bool.{MatchBool}
use Rattle.reply_xml.specs.declared.tags.Child.{Child}
use Rattle.reply_xml.specs.declared.tags.Tag.{Tag}
use Rattle.reply_xml.specs.Contents.{Content, Only, Then, ReadsText, ReadsInner, named}
use Rattle.reply_xml.specs.Children.{Once, AtMostOnce, Each, IsLeafOf}
use Rattle.reply_xml.specs.declared.elements.Element.{Element}
use Rattle.reply_xml.specs.Elements.{element_named}
use Rattle.reply_xml.specs.Tags.{NameEnds, NamesTag, ReadsTagEnd}

-- an element begins one level below an element with this room: a text, and its tag up to the end of the name
pub record NamesChild (room : ℕ) (bytes : List ℕ) (child : Child) (rest : List ℕ) : Type 0 where
  pub text : List ℕ
  pub at_tag : List ℕ
  pub before : ReadsText text bytes at_tag
  pub names : NamesTag child.name.now at_tag rest
  pub ends : NameEnds rest
  pub known : child.element ≡ element_named child.name.now
  pub deeper : child.room + 1 ≡ room

-- the tag of an element that began, with what stands in it behind the name
pub record IsTagOf (child : Child) (tag : Tag) (bytes rest : List ℕ) : Type 0 where
  pub ends : ReadsTagEnd tag.closed bytes rest
  pub name : tag.name.now ≡ child.name.now
  pub element : tag.element ≡ child.element
  pub room : tag.room ≡ child.room

-- The content ends at this place: none stands in a closed tag, and in another one the end tag begins behind a text.
abbrev pub AtEnd : Tag → (before at : List ℕ) → Type 0
AtEnd tag before at =
    MatchBool tag.closed (at ≡ before)
    ((text : List ℕ) × ReadsText text before at × (more : List ℕ) × (at ≡ 60 ∷ 47 ∷ more))

-- the content ends here, with no element in what is left of it
abbrev pub EndsContent : Tag → List ℕ → List ℕ → Type 0
EndsContent tag bytes rest = (text : List ℕ) × ReadsInner tag.closed (Only text) tag.room tag.name.now bytes rest

-- what stands behind the tag of an element, whatever it is, with the end tag
abbrev pub HoldsSome : Tag → List ℕ → List ℕ → Type 0
HoldsSome tag bytes rest = (inner : Content) × ReadsInner tag.closed inner tag.room tag.name.now bytes rest

-- what stands behind the tag has the value
abbrev pub HoldsAs : {V : Type 0} → (Content → V → Type 0) → Tag → List ℕ → List ℕ → V → Type 0
HoldsAs Means tag bytes rest value =
    (inner : Content) × ReadsInner tag.closed inner tag.room tag.name.now bytes rest × Means inner value

-- nothing that stands behind the tag has a value
abbrev pub HoldsNone : {V : Type 0} → (Content → V → Type 0) → Tag → List ℕ → Type 0
HoldsNone {V} Means tag bytes = (rest : List ℕ) (value : V) → ¬ (HoldsAs Means tag bytes rest value)

-- what is left of open elements, the innermost last
abbrev pub ReadsOpen : List Tag → List ℕ → List ℕ → Type 0
ReadsOpen [] bytes rest = rest ≡ bytes
ReadsOpen (tag ∷ tags) bytes rest = (at : List ℕ) × ReadsOpen tags bytes at × HoldsSome tag at rest

-- what stands behind the name of an element: the rest of its tag, the content and the end tag
abbrev pub ReadsElement : Child → Content → List ℕ → List ℕ → Type 0
ReadsElement child inner bytes rest =
    (closed : Bool) × (at : List ℕ) × ReadsTagEnd closed bytes at
    × ReadsInner closed inner child.room child.name.now at rest

abbrev pub ReadsSome : Child → List ℕ → List ℕ → Type 0
ReadsSome child bytes rest = (inner : Content) × ReadsElement child inner bytes rest

-- what stands inside the element, and what follows its end, has the value
abbrev pub ReadsAs : {V : Type 0} → (Content → V → Type 0) → Child → List ℕ → List ℕ → V → Type 0
ReadsAs Means child bytes rest value = (inner : Content) × ReadsElement child inner bytes rest × Means inner value

-- nothing that stands inside the element has a value
abbrev pub ReadsNone : {V : Type 0} → (Content → V → Type 0) → Child → List ℕ → Type 0
ReadsNone {V} Means child bytes = (rest : List ℕ) (value : V) → ¬ (ReadsAs Means child bytes rest value)

-- An element is read. With it the content has a value in the first sense exactly where what follows has it in the
-- second.
abbrev pub Advances : {V : Type 0} → (Before After : Content → V → Type 0) → Child → List ℕ → List ℕ → Type 0
Advances {V} Before After child bytes rest =
    (inner : Content) × ReadsElement child inner bytes rest
    × ((text : List ℕ) (more : Content) (value : V)
    → Before (Then text child.element inner more) value ↔ After more value)

-- with this element no content has a value
abbrev pub Stops : {V : Type 0} → (Before : Content → V → Type 0) → Child → List ℕ → Type 0
Stops {V} Before child bytes =
    (inner : Content) (rest text : List ℕ) (more : Content) (value : V) → ReadsElement child inner bytes rest
    → ¬ (Before (Then text child.element inner more) value)

-- what is left to be found of an element that stands once
abbrev pub OnceLeft : {V : Type 0} → (Content → V → Type 0) → Option V → List Content → V → Type 0
OnceLeft Means None contents value = Once Means contents value
OnceLeft Means (Some found) contents value = (contents ≡ []) × (value ≡ found)

-- the same of one that stands at most once
abbrev pub AtMostOnceLeft : {V : Type 0} → (Content → V → Type 0) → Option V → List Content → Option V → Type 0
AtMostOnceLeft Means None contents value = AtMostOnce Means contents value
AtMostOnceLeft Means (Some found) contents value = (contents ≡ []) × (value ≡ Some found)

-- what is left to be found where one leaf of this name stands, whose text has a value in this sense
abbrev pub LeafLeft : {V : Type 0} → (List ℕ → V → Type 0) → Element → Option V → Content → V → Type 0
LeafLeft Spells of found content value = OnceLeft (IsLeafOf Spells) found (named of content) value

-- the same, where such a leaf may be absent
abbrev pub AtMostLeft : {V : Type 0} → (List ℕ → V → Type 0) → Element → Option V → Content → Option V → Type 0
AtMostLeft Spells of found content value = AtMostOnceLeft (IsLeafOf Spells) found (named of content) value

-- what is left to be found of elements of one name, each with a value
abbrev pub EachLeft : {V : Type 0} → (Content → V → Type 0) → List V → List Content → List V → Type 0
EachLeft {V} Means found contents values = (later : List V) × (values ≡ found ++ later) × Each Means contents later
