-- What a hole with a width writes of a number: zeros or blanks, and the number.
use Rattle.std.proofs.Common.{◌≡◌, ◌^◌, ◌-◌, ◌++◌, ℕ, zero, suc, List, [], ◌∷◌, false, length, replicate, refl, ap, arith}
use Rattle.std.proofs.lemmas.List.{append-nil}
use Rattle.std.proofs.lemmas.Str.{encode_ascii}
use Rattle.std.specs.List.{repeat}
use Rattle.std.specs.Fmt.{padded_integral, format_spec, fill_text, char_count}

pub zeros : (places : ℕ) (numeral : List ℕ)
    → padded_integral (format_spec 32 0 4 places (2 ^ 64 - 1)) false [] numeral ≡ replicate (places - length numeral) 48 ++ numeral
unfolding padded_integral char_count
zeros places numeral =
    let short : places - length numeral - 0 - 0 ≡ places - length numeral = omega arith in
    rw short (ap (λ (tail : List ℕ). replicate (places - length numeral) 48 ++ tail) (append-nil numeral))

repeat_blank : (n : ℕ) → repeat {A = ℕ} n (32 ∷ []) ≡ replicate n 32
repeat_blank zero = refl
repeat_blank (suc n) = ap (λ (text : List ℕ). 32 ∷ text) (repeat_blank n)

fill_is : (places n : ℕ) → fill_text (format_spec 32 3 0 places (2 ^ 64 - 1)) n ≡ replicate n 32
fill_is places n = rw (encode_ascii 32 (omega arith)) (repeat_blank n)

pub blanks : (places : ℕ) (numeral : List ℕ)
    → padded_integral (format_spec 32 3 0 places (2 ^ 64 - 1)) false [] numeral ≡ replicate (places - length numeral) 32 ++ numeral
unfolding padded_integral char_count
blanks places numeral =
    let short : places - length numeral - 0 - 0 ≡ places - length numeral = omega arith in
    let none : places - length numeral - (places - length numeral) ≡ 0 = omega arith in
    rw (short, none, fill_is places (places - length numeral)) (simp append-nil)
