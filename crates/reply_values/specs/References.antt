-- Character data without markup, and the references in it (XML 1.0, sections 2.4, 4.1 and 4.6).
use Rattle.std.specs.Prelude.{◌≡◌, ◌≢◌, ◌⊎◌, ◌++◌, ◌∷◌, ◌<◌, ◌||◌, ℕ, Bool, nat_eq, List, [], length, take, drop}
use Rattle.std.specs.Prelude.{slice_index, codes}
use Rattle.std.specs.Prelude.{encode_utf8}
use Rattle.std.specs.Char.{IsScalar}
use Rattle.std.specs.List.{starts_with}
use Rattle.reply_values.specs.Numbers.{Writes}
use Rattle.reply_values.specs.Spelling.{Spells, StartsNoPiece}

-- the predefined entities
abbrev pub IsEntity : List ℕ → ℕ → Type 0
IsEntity name char =
    ((name ≡ codes "lt") × (char ≡ 60)) ⊎ ((name ≡ codes "gt") × (char ≡ 62)) ⊎ ((name ≡ codes "amp") × (char ≡ 38))
    ⊎ ((name ≡ codes "quot") × (char ≡ 34)) ⊎ ((name ≡ codes "apos") × (char ≡ 39))

-- a character by its number, decimal behind `#` or hexadecimal behind `#x`
abbrev pub IsNumbered : List ℕ → ℕ → Type 0
IsNumbered name char =
    IsScalar char × (((digits : List ℕ) × (name ≡ codes "#" ++ digits) × Writes 10 digits char)
    ⊎ ((digits : List ℕ) × (name ≡ codes "#x" ++ digits) × Writes 16 digits char))

-- what a name between `&` and `;` stands for
abbrev pub Names : List ℕ → ℕ → Type 0
Names name char = IsEntity name char ⊎ IsNumbered name char

-- `&name;` stands for a character, in UTF-8
pub record IsReference (piece text : List ℕ) : Type 0 where
  pub name : List ℕ
  pub char : ℕ
  pub written : piece ≡ codes "&" ++ name ++ codes ";"
  pub named : Names name char
  pub meant : text ≡ encode_utf8 char

-- every byte but `&` stands for itself
pub record IsPlain (piece text : List ℕ) : Type 0 where
  pub own : ℕ
  pub written : piece ≡ own ∷ []
  pub meant : text ≡ own ∷ []
  pub no_reference : own ≢ 38

abbrev pub StandsForText : List ℕ → List ℕ → Type 0
StandsForText piece text = IsReference piece text ⊎ IsPlain piece text

abbrev pub IsUnescaped : List ℕ → List ℕ → Type 0
IsUnescaped raw text = Spells StandsForText raw text

-- The first bad reference: what stands before it spells a text, a `&` stands there, and no reference begins there.
pub record IsBadReference (raw : List ℕ) (place : ℕ) : Type 0 where
  pub before : (text : List ℕ) × IsUnescaped (take place raw) text
  pub inside : place < length raw
  pub ampersand : slice_index raw place ≡ 38
  pub bad : StartsNoPiece IsReference (drop place raw)

-- with more bytes at the end each of its references stands for a character
abbrev pub GoesOn : List ℕ → Type 0
GoesOn raw = (more : List ℕ) × (text : List ℕ) × IsUnescaped (raw ++ more) text

-- more bytes make it a reference
abbrev pub IsCutShort : List ℕ → Type 0
IsCutShort piece = (more : List ℕ) × (text : List ℕ) × IsReference (piece ++ more) text

-- more digits make it the number of a character
abbrev pub BeginsNumber : ℕ → List ℕ → Type 0
BeginsNumber radix digits =
    (more : List ℕ) × (char : ℕ) × IsScalar char × Writes radix (digits ++ more) char

-- a name as far as it is written is the front of an entity's name with the `;` behind it
abbrev pub begins_entity : List ℕ → Bool
begins_entity name =
    starts_with nat_eq (codes "lt;") name || (starts_with nat_eq (codes "gt;") name
    || (starts_with nat_eq (codes "amp;") name || (starts_with nat_eq (codes "quot;") name
    || starts_with nat_eq (codes "apos;") name)))
