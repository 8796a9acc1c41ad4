-- Headers and parts of a request as the code holds them.
use Rattle.std.specs.Prelude.{◌++◌, ◌∷◌, [], ℕ, Bool, List, String, codes, map, string_bytes, if◌then◌else◌}
use Rattle.std.specs.List.{flat_map, join_with_byte}
use Rattle.std.specs.declared.alloc.Global.{Global}
use Rattle.s3_signing.specs.declared.headers.Header.{Header}
use Rattle.s3_signing.specs.declared.canonical.SignedParts.{SignedParts}
use Rattle.s3_signing.specs.Pairs.{Pair}
use Rattle.s3_signing.specs.Signing.{canonical_header, signed_names}

-- the names and values of lent headers
abbrev pub pairs_of : List Header → List Pair
pairs_of headers = map (λ (h : Header). (h.name.now, h.value.now)) headers

-- a piece with the separator in front of it, unless it is the first
abbrev pub next_piece : List ℕ → Bool → List ℕ → List ℕ
next_piece separator first piece = if first then piece else separator ++ piece

-- names and values that were written
abbrev pub text_pairs : List (String Global × String Global) → List Pair
text_pairs pairs = map (λ (p : String Global × String Global). (string_bytes p.0, string_bytes p.1)) pairs

-- the method, the path and the query, each with a line feed
abbrev pub target_lines : SignedParts → List ℕ
target_lines parts = parts.method.now ++ codes "\n" ++ parts.path.now ++ codes "\n" ++ parts.query.now ++ codes "\n"

-- the headers and their names, each with a line feed
abbrev pub header_block : List Pair → List ℕ
header_block headers = flat_map canonical_header headers ++ codes "\n" ++ signed_names headers ++ codes "\n"

-- the canonical request of parts whose path and query are escaped
abbrev pub canonical_with : SignedParts → List ℕ
canonical_with parts = join_with_byte 10 (
    parts.method.now ∷ parts.path.now ∷ parts.query.now
    ∷ flat_map canonical_header (pairs_of parts.headers.now) ∷ signed_names (pairs_of parts.headers.now)
    ∷ parts.payload_hash.now ∷ [])
