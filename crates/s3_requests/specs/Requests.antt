-- The requests of the Amazon S3 API, path style, as they are sent.
use Rattle.std.specs.Prelude.{◌++◌, ◌∷◌, ℕ, Bool, true, false, List, [], length, map, Option, Some, None, codes}
use Rattle.std.specs.Prelude.{decimal, if◌then◌else◌}
use Rattle.std.specs.List.{flat_map, join_with_byte}
use Rattle.std.specs.Str.{bytes_eq}
use Rattle.s3_model.specs.declared.places.Endpoint.{Endpoint}
use Rattle.s3_model.specs.declared.requests.Ask.{Ask}
use Rattle.s3_model.specs.declared.requests.Ask.TheVariants as ask
use Rattle.s3_model.specs.declared.settings.Keys.{Keys}
use Rattle.s3_model.specs.Documents.{completion}
use Rattle.s3_signing.specs.Pairs.{Pair, optional, sort_pairs}
use Rattle.s3_signing.specs.Paths.{bucket_path, object_path}
use Rattle.s3_signing.specs.Signing.{encode_path, encode_pair, canonical_request, credential, parameter, signature}
use Rattle.s3_signing.specs.Signing.{signed_names, hex_sha256}
use Rattle.s3_signing.specs.Times.{basic_time}

-- a request before it is encoded and signed: its own headers are those beside the headers of every request; the body is
-- the document, and empty where the caller has an object's bytes
pub record Request : Type 0 where
  pub method : List ℕ
  pub path : List ℕ
  pub query : List Pair
  pub own_headers : List Pair
  pub has_body : Bool
  pub body : List ℕ

-- a method and a path, and nothing else
abbrev pub plain : (method path : List ℕ) → Request
plain method path = record { method = method; path = path; query = []; own_headers = []; has_body = false; body = [] }

-- the parameters of queries
abbrev pub uploads : Pair
uploads = (codes "uploads", [])

abbrev pub upload_id : List ℕ → Pair
upload_id upload = (codes "uploadId", upload)

abbrev pub part_number : ℕ → Pair
part_number number = (codes "partNumber", decimal number)

abbrev pub part_parameters : (number : ℕ) (upload : List ℕ) → List Pair
part_parameters number upload = part_number number ∷ upload_id upload ∷ []

abbrev pub delimiter : Bool → List Pair
delimiter delimited = if delimited then (codes "delimiter", codes "/") ∷ [] else []

abbrev pub list_parameters : (prefix : List ℕ) (delimited : Bool) (token : Option (List ℕ)) → List Pair
list_parameters prefix delimited token =
    optional (codes "continuation-token") token ++ delimiter delimited
    ++ (codes "encoding-type", codes "url") ∷ (codes "list-type", codes "2") ∷ (codes "prefix", prefix) ∷ []

-- bytes=first-last, both ends inside
abbrev pub byte_range : ℕ × ℕ → List ℕ
byte_range range = codes "bytes=" ++ decimal range.0 ++ codes "-" ++ decimal range.1

-- the range of a read, where it is not the whole object
abbrev pub range_header : Option (ℕ × ℕ) → List Pair
range_header None = []
range_header (Some range) = (codes "range", byte_range range) ∷ []

-- the bytes are read under the condition that the object still has that ETag
abbrev pub read_headers : (etag : List ℕ) (range : Option (ℕ × ℕ)) → List Pair
read_headers etag range = (codes "if-match", etag) ∷ range_header range

-- a fresh request is made under the condition that there is no object
abbrev pub if_none_match : Bool → List Pair
if_none_match fresh = if fresh then (codes "if-none-match", codes "*") ∷ [] else []

abbrev pub content_type : Option (List ℕ) → List Pair
content_type content = optional (codes "content-type") content

-- bucket/key, the key encoded
abbrev pub source_of : (bucket key : List ℕ) → List ℕ
source_of bucket key = bucket ++ codes "/" ++ encode_path key

-- the source of a copy, under the condition that it still has that ETag
abbrev pub copy_source : (bucket key etag : List ℕ) → List Pair
copy_source bucket key etag =
    (codes "x-amz-copy-source", source_of bucket key) ∷ (codes "x-amz-copy-source-if-match", etag) ∷ []

abbrev pub copy_range : ℕ × ℕ → List Pair
copy_range range = (codes "x-amz-copy-source-range", byte_range range) ∷ []

-- the twelve requests, a row for each
abbrev pub request_of : Ask → Request
request_of (ask.Head bucket key) = plain (codes "HEAD") (object_path bucket key)
request_of (ask.Get bucket key etag range) =
    record (plain (codes "GET") (object_path bucket key)) { own_headers = read_headers etag range }
request_of (ask.Put bucket key content fresh) =
    record (plain (codes "PUT") (object_path bucket key))
    { own_headers = content_type content ++ if_none_match fresh; has_body = true }
request_of (ask.Copy bucket key from_bucket from_key etag) =
    record (plain (codes "PUT") (object_path bucket key))
    { own_headers = copy_source from_bucket from_key etag; has_body = true }
request_of (ask.Delete bucket key) = plain (codes "DELETE") (object_path bucket key)
request_of (ask.Create bucket key content) =
    record (plain (codes "POST") (object_path bucket key))
    { query = uploads ∷ []; own_headers = content_type content; has_body = true }
request_of (ask.Part bucket key upload number) =
    record (plain (codes "PUT") (object_path bucket key)) { query = part_parameters number upload; has_body = true }
request_of (ask.PartCopy bucket key upload number from_bucket from_key etag range) =
    record (plain (codes "PUT") (object_path bucket key)) {
      query = part_parameters number upload;
      own_headers = copy_source from_bucket from_key etag ++ copy_range range;
      has_body = true;
    }
request_of (ask.Complete bucket key upload etags fresh) =
    record (plain (codes "POST") (object_path bucket key)) {
      query = upload_id upload ∷ [];
      own_headers = if_none_match fresh;
      has_body = true;
      body = completion etags.items;
    }
request_of (ask.Abort bucket key upload) =
    record (plain (codes "DELETE") (object_path bucket key)) { query = upload_id upload ∷ [] }
request_of (ask.List bucket prefix delimited token) =
    record (plain (codes "GET") (bucket_path bucket)) { query = list_parameters prefix delimited token }
request_of ask.Buckets = plain (codes "GET") (codes "/")

-- a parameter in the request line, where `uploads` has no `=`
abbrev pub target_parameter : Pair → List ℕ
target_parameter p = if bytes_eq p.0 (codes "uploads") then p.0 else parameter p

-- `?` and the text, where there is one
abbrev pub marked : List ℕ → List ℕ
marked [] = []
marked (b ∷ rest) = codes "?" ++ b ∷ rest

-- the query of the request line, encoded and sorted like the one that is signed
unfoldable pub target_query : List Pair → List ℕ
target_query query = marked (join_with_byte 38 (map target_parameter (sort_pairs (map encode_pair query))))

-- the headers of every request
abbrev pub common_headers : (endpoint : Endpoint) (keys : Keys) (moment : ℕ) (payload_hash : List ℕ) → List Pair
common_headers endpoint keys moment payload_hash =
    (codes "host", endpoint.written) ∷ (codes "x-amz-content-sha256", payload_hash)
    ∷ (codes "x-amz-date", basic_time moment)
    ∷ optional (codes "x-amz-security-token") keys.token

-- every header that is signed, sorted by name
unfoldable pub signed_headers : (r : Request) (endpoint : Endpoint) (keys : Keys) (moment : ℕ) (payload_hash : List ℕ)
    → List Pair
signed_headers r endpoint keys moment payload_hash =
    sort_pairs (r.own_headers ++ common_headers endpoint keys moment payload_hash)

-- name: value and CR LF
abbrev pub header_line : Pair → List ℕ
header_line h = h.0 ++ codes ": " ++ h.1 ++ codes "\r\n"

-- the length of the body, where there is one
abbrev pub length_line : Bool → ℕ → List ℕ
length_line has_body length = if has_body then header_line (codes "content-length", decimal length) else []

-- the value of the authorization header, under these signed headers and with that signature
unfoldable pub authorization : (keys : Keys) (moment : ℕ) (headers : List Pair) (signed : List ℕ) → List ℕ
authorization keys moment headers signed =
    codes "AWS4-HMAC-SHA256 Credential=" ++ credential keys moment
    ++ codes ", SignedHeaders=" ++ signed_names headers ++ codes ", Signature=" ++ signed

-- the method and the encoded path
unfoldable pub method_and_path : Request → List ℕ
method_and_path r = r.method ++ codes " " ++ encode_path r.path

-- method target HTTP/1.1
unfoldable pub request_line : Request → List ℕ
request_line r = method_and_path r ++ target_query r.query ++ codes " HTTP/1.1\r\n"

-- the signature of a request with these signed headers
unfoldable pub signature_of : (r : Request) (headers : List Pair) (keys : Keys) (moment : ℕ) (payload_hash : List ℕ)
    → List ℕ
signature_of r headers keys moment payload_hash =
    signature keys moment (canonical_request r.method r.path r.query headers payload_hash)

-- the head of a request with these signed headers: the request line, the headers and an empty line
unfoldable pub head_with : (r : Request) (headers : List Pair) (keys : Keys) (moment : ℕ) (payload_hash : List ℕ)
    (length : ℕ) → List ℕ
head_with r headers keys moment payload_hash length =
    request_line r
    ++ (flat_map header_line headers
    ++ length_line r.has_body length
    ++ header_line (
      codes "authorization",
      authorization keys moment headers
          (signature_of r headers keys moment payload_hash),
    )
    ++ codes "\r\n")

-- the head of a request whose body has that hash and length
abbrev pub request_head : (a : Ask) (endpoint : Endpoint) (keys : Keys) (moment : ℕ) (payload_hash : List ℕ)
    (length : ℕ) → List ℕ
request_head a endpoint keys moment payload_hash length =
    head_with (request_of a) (signed_headers (request_of a) endpoint keys moment payload_hash) keys moment payload_hash
    length

-- a whole request: its head and its body
abbrev pub request_text : (a : Ask) (endpoint : Endpoint) (keys : Keys) (moment : ℕ) (body : List ℕ) → List ℕ
request_text a endpoint keys moment body = request_head a endpoint keys moment (hex_sha256 body) (length body) ++ body
