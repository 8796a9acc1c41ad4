-- The characters of an empty text, and facts that hold just where others do.
use Rattle.std.proofs.Common.{◌≡◌, List, [], ℕ, sym, ap, ◌∙◌}
use Rattle.std.specs.Str.{chars, IsUtf8, encode_utf8_all}
use Rattle.std.proofs.lemmas.Str.{chars-nil, encodes-chars}

pub chars_empty : (bs : List ℕ) → bs ≡ [] → chars bs ≡ []
chars_empty bs e = ap chars e ∙ chars-nil

pub empty_from_chars : (bs : List ℕ) → IsUtf8 bs → chars bs ≡ [] → bs ≡ []
empty_from_chars bs u e = sym (encodes-chars bs u) ∙ ap encode_utf8_all e
