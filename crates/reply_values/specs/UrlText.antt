-- Keys as the S3 API's `encoding-type=url` writes them (RFC 3986, section 2.1).
use Rattle.std.specs.Prelude.{◌≡◌, ◌≢◌, ◌⊎◌, ◌++◌, ◌∷◌, ℕ, Bool, true, false, List, [], length, codes, IsUtf8}
use Rattle.reply_values.specs.Numbers.{Writes}
use Rattle.reply_values.specs.Spelling.{Spells}

-- `+` stands for a space
abbrev pub IsSpace : List ℕ → List ℕ → Type 0
IsSpace piece byte = (piece ≡ codes "+") × (byte ≡ codes " ")

-- `%` and two hexadecimal digits stand for the byte of that number
pub record IsEscape (piece byte : List ℕ) : Type 0 where
  pub digits : List ℕ
  pub number : ℕ
  pub written : piece ≡ codes "%" ++ digits
  pub two : length digits ≡ 2
  pub hex : Writes 16 digits number
  pub meant : byte ≡ number ∷ []

-- every other byte stands for itself
pub record IsItself (piece byte : List ℕ) : Type 0 where
  pub own : ℕ
  pub written : piece ≡ own ∷ []
  pub meant : byte ≡ own ∷ []
  pub no_percent : own ≢ 37
  pub no_plus : own ≢ 43

abbrev pub StandsForByte : List ℕ → List ℕ → Type 0
StandsForByte piece byte = IsSpace piece byte ⊎ IsEscape piece byte ⊎ IsItself piece byte

-- the pieces stand for bytes that are UTF-8
pub record SpellsUrlText (written text : List ℕ) : Type 0 where
  pub bytes : Spells StandsForByte written text
  pub utf8 : IsUtf8 text

-- what a written key or prefix means, where keys are written as URLs and where they are not
abbrev pub MeansText : Bool → List ℕ → List ℕ → Type 0
MeansText false written text = text ≡ written
MeansText true written text = SpellsUrlText written text
