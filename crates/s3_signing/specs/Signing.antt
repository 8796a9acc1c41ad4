-- AWS Signature Version 4 (Amazon S3 API Reference, "Authenticating Requests: Using the Authorization Header").
use Rattle.std.specs.Prelude.{◌++◌, ◌∷◌, ◌==◌, ◌||◌, ◌≡◌, ℕ, Bool, false, List, [], All, length, map, filter, not}
use Rattle.std.specs.Prelude.{codes, if◌then◌else◌, IfSome, Option}
use Rattle.std.specs.Cmp.Lexicographic.{slice_cmp}
use Rattle.std.specs.List.{flat_map, join_with_byte, list_any, slice_split, AllAdjacentBelow}
use Rattle.std.specs.Char.{is_ascii_alphanumeric, is_ascii_uppercase}
use Rattle.std.specs.Ordering.{nat_cmp}
use Rattle.std.specs.declared.cmp.Ordering.TheVariants.{Less}
use Rattle.hex.specs.Hex.{encode_lower}
use Rattle.percent_encoding.specs.Percent.{percent_encode_byte}
use Rattle.sha2.specs.Sha256.{sha256}
use Rattle.s3_model.specs.declared.settings.Keys.{Keys}
use Rattle.s3_signing.specs.Hmac.{hmac_sha256}
use Rattle.s3_signing.specs.Pairs.{Pair, sort_pairs}
use Rattle.s3_signing.specs.Times.{basic_date, basic_time}

-- a letter, a digit, or one of `-._~`
abbrev pub is_unreserved : ℕ → Bool
is_unreserved b = is_ascii_alphanumeric b || list_any (λ c. c == b) (codes "-._~")

-- UriEncode: every byte that is not kept becomes `%` and two upper-case hexadecimal digits
abbrev pub encode_but : (ℕ → Bool) → List ℕ → List ℕ
encode_but is_kept text = flat_map (λ b. if is_kept b then b ∷ [] else percent_encode_byte b) text

-- a name or a value of a query, encoded
unfoldable pub encode_query : List ℕ → List ℕ
encode_query text = encode_but is_unreserved text

-- a path, encoded, where `/` stays
unfoldable pub encode_path : List ℕ → List ℕ
encode_path text = encode_but (λ b. is_unreserved b || (b == 47)) text

abbrev pub encode_pair : Pair → Pair
encode_pair p = (encode_query p.0, encode_query p.1)

-- name=value
abbrev pub parameter : Pair → List ℕ
parameter p = p.0 ++ codes "=" ++ p.1

-- encoded parameters, joined by `&`
unfoldable pub parameters : List Pair → List ℕ
parameters pairs = join_with_byte 38 (map parameter pairs)

-- the parameters, encoded and then sorted by name and value
unfoldable pub canonical_query : List Pair → List ℕ
canonical_query query = parameters (sort_pairs (map encode_pair query))

-- what stands between spaces, and is not empty
abbrev pub words : List (List ℕ) → List (List ℕ)
words pieces = filter (λ piece. not (length piece == 0)) pieces

-- a header's value without outer spaces, and each run of spaces inside as one space
unfoldable pub trimmed : List ℕ → List ℕ
trimmed value = join_with_byte 32 (words (slice_split (λ b. b == 32) value))

-- name:value and a line feed
abbrev pub canonical_header : Pair → List ℕ
canonical_header h = h.0 ++ codes ":" ++ trimmed h.1 ++ codes "\n"

-- the names of the headers, joined by `;`
unfoldable pub signed_names : List Pair → List ℕ
signed_names headers = join_with_byte 59 (map (λ h. h.0) headers)

-- the six parts of a request that are signed, joined by line feeds; the headers stand in ascending order of their names
unfoldable pub canonical_request : (method path : List ℕ) (query headers : List Pair) (payload_hash : List ℕ) → List ℕ
canonical_request method path query headers payload_hash = join_with_byte 10 (
    method ∷ encode_path path ∷ canonical_query query ∷ flat_map canonical_header headers ∷ signed_names headers
    ∷ payload_hash ∷ [])

-- the SHA-256 of some bytes in lower-case hexadecimal digits
unfoldable pub hex_sha256 : List ℕ → List ℕ
hex_sha256 bytes = encode_lower (sha256 bytes)

-- a hash that is known is that of these bytes
abbrev pub IsHashOf : (known : Option (List ℕ)) → (bytes : List ℕ) → Type 0
IsHashOf known bytes = IfSome known (λ hash. hash ≡ hex_sha256 bytes)

-- date/region/s3/aws4_request
unfoldable pub credential_scope : (date region : List ℕ) → List ℕ
credential_scope date region = join_with_byte 47 (date ∷ region ∷ codes "s3" ∷ codes "aws4_request" ∷ [])

-- id/scope
unfoldable pub credential : Keys → ℕ → List ℕ
credential keys moment = keys.id ++ codes "/" ++ credential_scope (basic_date moment) keys.region

-- what the signature is made of, joined by line feeds; the moment is in seconds since 1970
unfoldable pub string_to_sign : (moment : ℕ) (region canonical : List ℕ) → List ℕ
string_to_sign moment region canonical = join_with_byte 10 (
    codes "AWS4-HMAC-SHA256" ∷ basic_time moment ∷ credential_scope (basic_date moment) region ∷ hex_sha256 canonical
    ∷ [])

-- the key of one day, region and service, from the secret access key
unfoldable pub signing_key : (secret date region : List ℕ) → List ℕ
signing_key secret date region =
    hmac_sha256 (hmac_sha256 (hmac_sha256 (hmac_sha256 (codes "AWS4" ++ secret) date) region) (codes "s3"))
    (codes "aws4_request")

-- the HMAC of the string to sign under the signing key, in lower-case hexadecimal digits
unfoldable pub signature_under : (key : List ℕ) (moment : ℕ) (region canonical : List ℕ) → List ℕ
signature_under key moment region canonical = encode_lower (hmac_sha256 key (string_to_sign moment region canonical))

-- the signature of a canonical request at a moment
abbrev pub signature : (keys : Keys) (moment : ℕ) (canonical : List ℕ) → List ℕ
signature keys moment canonical =
    signature_under (signing_key keys.secret (basic_date moment) keys.region) moment keys.region canonical

-- no letter of the name is an upper-case one
abbrev pub IsLowerCase : List ℕ → Type 0
IsLowerCase name = All (λ b. is_ascii_uppercase b ≡ false) name

-- the first name stands before the second in the order of bytes
abbrev pub IsBefore : Pair → Pair → Type 0
IsBefore a b = slice_cmp nat_cmp a.0 b.0 ≡ Less

-- the names of the headers are in lower case, distinct and sorted
pub record HasSortedNames (headers : List Pair) : Type 0 where
  pub lower_case : All (λ h. IsLowerCase h.0) headers
  pub ascending : AllAdjacentBelow IsBefore headers (length headers)
