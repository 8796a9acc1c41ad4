-- Tags (XML 1.0, productions 5, 10 and 40 to 44).
use Rattle.std.specs.Prelude.{◌≡◌, ◌≢◌, ◌==◌, ◌||◌, ◌⊎◌, ℕ, zero, suc, Bool, true, false, List, [], ◌∷◌, ◌++◌}
use Rattle.std.specs.List.{AllPass}
use Rattle.std.specs.Str.{IsUtf8}
use Rattle.reply_xml.specs.declared.runs.Sort.TheVariants as sort
use Rattle.reply_xml.specs.Runs.{ReadsRun, is_of, is_space}

-- at least one byte, and each one of names
pub record IsName (name : List ℕ) : Type 0 where
  pub inside : AllPass (is_of sort.Name) name
  pub some : name ≢ []

-- at least one byte of names
pub record ReadsName (name bytes rest : List ℕ) : Type 0 where
  pub run : ReadsRun sort.Name name bytes rest
  pub some : name ≢ []

-- AttValue, in quotes of either sort and without `<`
pub record ReadsValue (bytes rest : List ℕ) : Type 0 where
  pub quote : ℕ
  pub is_quote : (quote ≡ 34) ⊎ (quote ≡ 39)
  pub at_value : List ℕ
  pub opens : bytes ≡ quote ∷ at_value
  pub value : List ℕ
  pub at_quote : List ℕ
  pub valued : ReadsRun (sort.Value quote) value at_value at_quote
  pub characters : IsUtf8 value
  pub closes : at_quote ≡ quote ∷ rest

-- Attribute = Name '=' AttValue
pub record ReadsAttribute (bytes rest : List ℕ) : Type 0 where
  pub name : List ℕ
  pub at_equals : List ℕ
  pub named : ReadsName name bytes at_equals
  pub at_value : List ℕ
  pub equals : at_equals ≡ 61 ∷ at_value
  pub value : ReadsValue at_value rest

-- white space, at least one byte
pub record ReadsGap (bytes rest : List ℕ) : Type 0 where
  pub space : List ℕ
  pub run : ReadsRun sort.Space space bytes rest
  pub some : space ≢ []

-- so many attributes, each behind white space
abbrev pub ReadsAttributes : ℕ → List ℕ → List ℕ → Type 0
ReadsAttributes zero bytes rest = rest ≡ bytes
ReadsAttributes (suc n) bytes rest =
    (at : List ℕ) × (next : List ℕ) × ReadsGap bytes at × ReadsAttribute at next × ReadsAttributes n next rest

-- how a start tag ends, and how an empty-element tag ends
abbrev pub tag_close : Bool → List ℕ
tag_close false = 62 ∷ []
tag_close true = 47 ∷ 62 ∷ []

-- what stands in a tag behind its name: attributes, white space, and the end
pub record ReadsTagEnd (closed : Bool) (bytes rest : List ℕ) : Type 0 where
  pub count : ℕ
  pub at_space : List ℕ
  pub attributes : ReadsAttributes count bytes at_space
  pub space : List ℕ
  pub at_close : List ℕ
  pub run : ReadsRun sort.Space space at_space at_close
  pub closes : at_close ≡ tag_close closed ++ rest

-- a start tag, or where it is closed an empty-element tag
pub record ReadsTag (closed : Bool) (name bytes rest : List ℕ) : Type 0 where
  pub at_name : List ℕ
  pub opens : bytes ≡ 60 ∷ at_name
  pub at_attributes : List ℕ
  pub named : ReadsName name at_name at_attributes
  pub ends : ReadsTagEnd closed at_attributes rest

-- an end tag
pub record ReadsEndTag (name bytes rest : List ℕ) : Type 0 where
  pub at_name : List ℕ
  pub opens : bytes ≡ 60 ∷ 47 ∷ at_name
  pub at_space : List ℕ
  pub named : ReadsName name at_name at_space
  pub space : List ℕ
  pub at_close : List ℕ
  pub run : ReadsRun sort.Space space at_space at_close
  pub closes : at_close ≡ 62 ∷ rest

-- a start tag or an empty-element tag begins, up to the end of its name
pub record NamesTag (name bytes rest : List ℕ) : Type 0 where
  pub at_name : List ℕ
  pub opens : bytes ≡ 60 ∷ at_name
  pub named : ReadsName name at_name rest

-- the bytes that may follow the name of a tag: white space, `/` and `>`
abbrev pub ends_name : ℕ → Bool
ends_name byte = is_space byte || (byte == 47 || byte == 62)

-- such a byte stands at the front
abbrev pub NameEnds : List ℕ → Type 0
NameEnds bytes = (byte : ℕ) × (more : List ℕ) × (bytes ≡ byte ∷ more) × (ends_name byte ≡ true)
