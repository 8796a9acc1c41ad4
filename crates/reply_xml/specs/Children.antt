-- What the elements inside an element are, and what their texts mean.
use Rattle.std.specs.Prelude.{◌≡◌, ⊤, ℕ, List, [], ◌∷◌, Option, Some, None}
use Rattle.reply_xml.specs.declared.elements.Element.{Element}
use Rattle.reply_xml.specs.declared.elements.Element.TheVariants as element
use Rattle.reply_xml.specs.Contents.{Content, Only, Then, named}
use Rattle.reply_values.specs.Forms.{IsEtag, IsUploadId}
use Rattle.reply_values.specs.References.{IsUnescaped}

-- no element stands inside, and the text means this when it is unescaped
abbrev pub IsLeaf : Content → List ℕ → Type 0
IsLeaf (Only raw) text = IsUnescaped raw text
IsLeaf (Then raw child inner more) text = ⊥

-- the text of a leaf means a value
abbrev pub IsLeafOf : {V : Type 0} → (List ℕ → V → Type 0) → Content → V → Type 0
IsLeafOf Spells content value = (text : List ℕ) × IsLeaf content text × Spells text value

-- there is one content, and it has the value
abbrev pub Once : {V : Type 0} → (Content → V → Type 0) → List Content → V → Type 0
Once Means contents value = (content : Content) × (contents ≡ content ∷ []) × Means content value

-- there is at most one content, and it has the value
abbrev pub AtMostOnce : {V : Type 0} → (Content → V → Type 0) → List Content → Option V → Type 0
AtMostOnce Means contents None = contents ≡ []
AtMostOnce Means contents (Some value) = Once Means contents value

-- the forms of the texts that have one
abbrev pub HasForm : Element → List ℕ → Type 0
HasForm element.ETag text = IsEtag text
HasForm element.UploadId text = IsUploadId text
HasForm other text = ⊤

-- a text in the form of its element
abbrev pub IsFormed : Element → List ℕ → List ℕ → Type 0
IsFormed of text value = (value ≡ text) × HasForm of text

-- a text of any form
abbrev pub IsPlain : List ℕ → List ℕ → Type 0
IsPlain text value = value ≡ text

-- one leaf of this name stands in the content, and its text has this value
abbrev pub HasOnly : {V : Type 0} → (List ℕ → V → Type 0) → Element → Content → V → Type 0
HasOnly Spells of content value = Once (IsLeafOf Spells) (named of content) value

-- one leaf of this name stands in the content, and has this text
abbrev pub HasLeaf : Element → Content → List ℕ → Type 0
HasLeaf of content text = Once (IsLeafOf (IsFormed of)) (named of content) text

-- each content has its value, in order
abbrev pub Each : {V : Type 0} → (Content → V → Type 0) → List Content → List V → Type 0
Each Means [] [] = ⊤
Each Means [] (value ∷ values) = ⊥
Each Means (content ∷ contents) [] = ⊥
Each Means (content ∷ contents) (value ∷ values) = Means content value × Each Means contents values
