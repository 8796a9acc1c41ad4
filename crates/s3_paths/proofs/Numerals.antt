-- Decimal digits and their value.
use Rattle.std.proofs.Common.{◌≡◌, ◌<◌, ℕ, true, List, [], ◌∷◌, length, arith}
use Rattle.std.specs.Str.{all_ascii_digits}
use Rattle.std.specs.Str.Parse.{digits_value}
use Rattle.std.proofs.lemmas.Str.Parse.{IsNumeralModel, numerals_by_value, tells_all_ascii_digits}

pub by_digits : IsNumeralModel (λ ds. all_ascii_digits ds ≡ true) (digits_value 10)
by_digits = numerals_by_value _ tells_all_ascii_digits

pub some_digit : (bs : List ℕ) → 0 < digits_value 10 bs → 0 < length bs
some_digit [] h = let none : 0 < 0 = h in omega arith
some_digit (c ∷ cs) h = omega arith
