-- Numbers and truth values as texts.
use Rattle.std.specs.Prelude.{◌≡◌, ◌<◌, ◌^◌, ℕ, Bool, true, false, List, codes}
use Rattle.std.specs.Str.Parse.{IsNumeral, digits_value}

-- digits of this radix, at least one and no sign, write the number
pub record Writes (radix : ℕ) (text : List ℕ) (number : ℕ) : Type 0 where
  pub digits : IsNumeral radix text
  pub value : digits_value radix text ≡ number

-- decimal digits write a number below 2^64
pub record SpellsNumber (text : List ℕ) (number : ℕ) : Type 0 where
  pub written : Writes 10 text number
  pub small : number < 2 ^ 64

abbrev pub SpellsTruth : List ℕ → Bool → Type 0
SpellsTruth text true = text ≡ codes "true"
SpellsTruth text false = text ≡ codes "false"
