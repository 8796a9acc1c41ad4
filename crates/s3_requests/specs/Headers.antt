-- The headers of requests and the first parameters of a listing, as the code writes them.
use Rattle.std.specs.Prelude.{◌++◌, ◌∷◌, [], ℕ, Bool, List, Option, Some, None, codes, if◌then◌else◌}
use Rattle.std.specs.Option.{option_copied}
use Rattle.s3_requests.specs.Descriptions.{source_in}
use Rattle.s3_requests.specs.declared.description.OwnHeaders.{OwnHeaders}
use Rattle.s3_requests.specs.declared.description.OwnHeaders.TheVariants as own
use Rattle.s3_requests.specs.declared.own.HeaderValues.{HeaderValues}
use Rattle.s3_requests.specs.Requests.{byte_range, content_type, copy_range, if_none_match, read_headers, source_of}
use Rattle.s3_signing.specs.Pairs.{Pair, optional}
use Rattle.s3_signing.specs.Signing.{encode_query}

-- the first parameters of a listing's query, each with `&` behind it
abbrev pub token_text : Option (List ℕ) → List ℕ
token_text None = []
token_text (Some token) = codes "continuation-token=" ++ encode_query token ++ codes "&"

abbrev pub delimiter_text : Bool → List ℕ
delimiter_text delimited = if delimited then codes "delimiter=%2F&" else []

-- the headers of every request
abbrev pub common_in : HeaderValues → List Pair
common_in v =
    (codes "host", v.host.now) ∷ (codes "x-amz-content-sha256", v.payload_hash.now) ∷ (codes "x-amz-date", v.date.now)
    ∷ optional (codes "x-amz-security-token") (option_copied v.token)

-- ---- values that are written

-- the range that a request names
abbrev pub range_text : OwnHeaders → List ℕ
range_text (own.Read etag (Some range)) = byte_range range
range_text (own.RangeCopy source range) = byte_range range
range_text headers = []

-- the source of a copy
abbrev pub source_text : OwnHeaders → List ℕ
source_text (own.Copy source) = source_of source.bucket.now source.key.now
source_text (own.RangeCopy source range) = source_of source.bucket.now source.key.now
source_text headers = []

-- ---- the own headers by their place among the common ones

-- in front of the host
abbrev pub content_headers : OwnHeaders → List Pair
content_headers (own.Upload content fresh) = content_type (option_copied content)
content_headers headers = []

-- behind the host
abbrev pub condition_headers : OwnHeaders → List Pair
condition_headers (own.Upload content fresh) = if_none_match fresh
condition_headers (own.Read etag range) = read_headers etag.now range
condition_headers headers = []

-- behind the hash of the body
abbrev pub copy_headers : OwnHeaders → List Pair
copy_headers (own.Copy source) = source_in source
copy_headers (own.RangeCopy source range) = source_in source
copy_headers headers = []

-- and behind those
abbrev pub copy_range_headers : OwnHeaders → List Pair
copy_range_headers (own.RangeCopy source range) = copy_range range
copy_range_headers headers = []
