-- An entity tag is text.
use Rattle.std.proofs.Common.{◌≡◌, ℕ, zero, suc, ◌<◌, true, List, [], ◌∷◌, get_or, arith}
use Rattle.std.specs.List.{list_all}
use Rattle.std.specs.Char.{is_ascii_graphic}
use Rattle.std.specs.Str.{IsUtf8}
use Rattle.std.specs.Prelude.{nat_le, length}
use Rattle.std.proofs.lemmas.Bool.{and_parts}
use Rattle.std.proofs.lemmas.Bool.Decides.{nat_tests}
use Rattle.std.proofs.lemmas.Str.{IsUtf8-from_ascii}
use Rattle.answer_grammar.specs.Head.{is_etag}

graphic-lt : (b : ℕ) → is_ascii_graphic b ≡ true → b < 128
graphic-lt b graphic = grind (arith, nat_tests)

graphic_is_ascii : (xs : List ℕ) → list_all is_ascii_graphic xs ≡ true → (i : ℕ) → get_or xs i 0 < 128
graphic_is_ascii [] all i = omega arith
graphic_is_ascii (x ∷ xs) all zero = graphic-lt x (and_parts (is_ascii_graphic x) _ all).0
graphic_is_ascii (x ∷ xs) all (suc i) = graphic_is_ascii xs (and_parts (is_ascii_graphic x) _ all).1 i

pub etag_is_text : (text : List ℕ) → is_etag text ≡ true → IsUtf8 text
etag_is_text text is =
    let graphic = (and_parts (nat_le (length text) 256) _ (and_parts (nat_le 1 (length text)) _ is).1).1 in
    IsUtf8-from_ascii text (graphic_is_ascii text graphic)
