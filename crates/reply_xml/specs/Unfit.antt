-- What is wrong with the text of an element: it is out of the form in which the element is read.
use Rattle.std.specs.Prelude.{◌≡◌, ◌≢◌, ◌⊎◌, ℕ, Bool, List, [], codes}
use Rattle.std.specs.Bool.{MatchBool}
use Rattle.reply_xml.specs.declared.elements.Element.{Element}
use Rattle.reply_xml.specs.declared.faults.DocFault.{DocFault}
use Rattle.reply_xml.specs.declared.faults.DocFault.TheVariants as fault
use Rattle.reply_xml.specs.declared.tags.Tag.{Tag}
use Rattle.reply_xml.specs.Children.{HasForm}
use Rattle.reply_xml.specs.Contents.{ReadsText}
use Rattle.reply_values.specs.Forms.{IsKey}
use Rattle.reply_values.specs.Numbers.{SpellsNumber, SpellsTruth}
use Rattle.reply_values.specs.References.{IsUnescaped}
use Rattle.reply_values.specs.Times.{SpellsTime}
use Rattle.reply_values.specs.UrlText.{MeansText}

-- The forms of texts: any text, one in the form of its element, a number, a truth value, a time, an encoding; a key,
-- and a prefix, as they are written in a URL or not.
pub data Form : Type 0 where
  AnyText : Form
  OwnForm : Form
  ANumber : Form
  ATruth : Form
  ATime : Form
  AnEncoding : Form
  AKey : (url : Bool) → Form
  APrefix : (url : Bool) → Form

-- a key as it is written means nothing, or no key
abbrev pub IsBadKey : Bool → Element → List ℕ → DocFault → Type 0
IsBadKey url of text reason =
    ((reason ≡ fault.BadEscape) × ((key : List ℕ) → ¬ (MeansText url text key)))
    ⊎ ((reason ≡ fault.BadText of) × ((key : List ℕ) × MeansText url text key × ¬ (IsKey key)))

-- the text of an element is out of the form, and this is the fault
abbrev pub IsUnfit : Form → Element → List ℕ → DocFault → Type 0
IsUnfit AnyText of text reason = ⊥
IsUnfit OwnForm of text reason = (reason ≡ fault.BadText of) × ¬ (HasForm of text)
IsUnfit ANumber of text reason = (reason ≡ fault.BadNumber) × ((number : ℕ) → ¬ (SpellsNumber text number))
IsUnfit ATruth of text reason = (reason ≡ fault.BadNumber) × ((truth : Bool) → ¬ (SpellsTruth text truth))
IsUnfit ATime of text reason = (reason ≡ fault.BadTime) × ((moment : ℕ) → ¬ (SpellsTime text moment))
IsUnfit AnEncoding of text reason = (reason ≡ fault.BadText of) × (text ≢ codes "url")
IsUnfit (AKey url) of text reason = IsBadKey url of text reason
IsUnfit (APrefix url) of text reason =
    (reason ≡ fault.BadEscape) × ((meaning : List ℕ) → ¬ (MeansText url text meaning))

-- the text of an element is in the form
abbrev pub IsFit : Form → Element → List ℕ → Type 0
IsFit form of text = (reason : DocFault) → ¬ (IsUnfit form of text reason)

-- the text behind the tag of an element, unescaped, and what follows it: none stands behind a closed tag
abbrev pub HasText : Tag → (bytes rest text : List ℕ) → Type 0
HasText tag bytes rest text =
    MatchBool tag.closed ((text ≡ []) × (rest ≡ bytes))
    ((raw : List ℕ) × ReadsText raw bytes rest × IsUnescaped raw text)
