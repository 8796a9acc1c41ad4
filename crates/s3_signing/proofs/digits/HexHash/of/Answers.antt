use Rattle.std.proofs.Common.{◌≡◌, ◌∷◌, ℕ, true, List, [], refl, subst, sym}
use Rattle.std.proofs.lemmas.Bool.{and_parts, ltb-true}
use Rattle.std.proofs.lemmas.Str.{IsUtf8-from_ascii}
use Rattle.std.proofs.lemmas.Str.Ascii.{IsAscii-cons, IsAscii-nil}
use Rattle.std.proofs.Math.Dec.{ltb}
use Rattle.std.specs.List.{list_all}
use Rattle.std.specs.Str.{IsAscii, IsUtf8}
use Rattle.hex.specs.Hex.{encode_lower, lower_digits}
use Rattle.hex.proofs.HexLemmas.{IsAscii-encode_with}
use Rattle.s3_signing.proofs.digits.HexHash.of.Goals as goal

ascii : (xs : List ℕ) → list_all (λ x. ltb x 128) xs ≡ true → IsAscii xs
ascii [] h = IsAscii-nil
ascii (x ∷ rest) h =
    let found = and_parts (ltb x 128) (list_all (λ x. ltb x 128) rest) h in
    IsAscii-cons x rest (ltb-true x 128 found.0) (ascii rest found.1)

pub invariant_of-result : goal.invariant_of-result
invariant_of-result c =
    let digits = IsAscii-encode_with lower_digits c.args.hash (ascii lower_digits refl) in
    subst IsUtf8 (sym c.in-Ok.ensures.written) (IsUtf8-from_ascii (encode_lower c.args.hash) digits)
