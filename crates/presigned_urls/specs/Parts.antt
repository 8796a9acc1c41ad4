-- The parts of a presigned URL as the code writes them.
use Rattle.std.specs.Prelude.{◌++◌, ◌∷◌, ℕ, List, [], Option, Some, None, codes}
use Rattle.std.specs.List.{flat_map, join_with_byte}
use Rattle.s3_signing.specs.Pairs.{Pair}
use Rattle.s3_signing.specs.Signing.{canonical_header, encode_query, signed_names}

-- the parameters before the token, of values that are not yet encoded
unfoldable pub first_parameters : (credential date expires : List ℕ) → List ℕ
first_parameters credential date expires =
    codes "X-Amz-Algorithm=AWS4-HMAC-SHA256" ++ (codes "&X-Amz-Credential=" ++ encode_query credential)
    ++ (codes "&X-Amz-Date=" ++ encode_query date) ++ (codes "&X-Amz-Expires=" ++ encode_query expires)

-- the token, where there is one
abbrev pub token_parameter : Option (List ℕ) → List ℕ
token_parameter None = []
token_parameter (Some token) = codes "&X-Amz-Security-Token=" ++ encode_query token

-- the headers that are signed: the host alone
abbrev pub host_alone : List ℕ → List Pair
host_alone written = (codes "host", written) ∷ []

-- the canonical request, of a path and a query that are escaped
abbrev pub request_with : (written path query : List ℕ) → List ℕ
request_with written path query = join_with_byte 10 (
    codes "GET" ∷ path ∷ query ∷ flat_map canonical_header (host_alone written) ∷ signed_names (host_alone written)
    ∷ codes "UNSIGNED-PAYLOAD" ∷ [])

-- the URL of its parts
abbrev pub url_with : (written path query signed : List ℕ) → List ℕ
url_with written path query signed =
    codes "http://" ++ written ++ path ++ codes "?" ++ query ++ codes "&X-Amz-Signature=" ++ signed
