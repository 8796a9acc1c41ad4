-- Presigned URLs (Amazon S3 API Reference, "Authenticating Requests: Using Query Parameters").
use Rattle.std.specs.Prelude.{◌++◌, ◌∷◌, ◌||◌, ℕ, List, [], Option, Some, None, codes, decimal, nat_lt, if◌then◌else◌}
use Rattle.s3_model.specs.declared.places.Endpoint.{Endpoint}
use Rattle.s3_model.specs.declared.settings.Keys.{Keys}
use Rattle.s3_paths.specs.declared.uris.S3Uri.{S3Uri}
use Rattle.s3_signing.specs.Pairs.{Pair, optional}
use Rattle.s3_signing.specs.Paths.{object_path}
use Rattle.s3_signing.specs.Signing.{canonical_query, canonical_request, credential, encode_path, signature}
use Rattle.s3_signing.specs.Times.{basic_time}
use Rattle.presigned_urls.specs.declared.urls.PresignFault.{PresignFault}
use Rattle.presigned_urls.specs.declared.urls.PresignFault.TheVariants.{Expires, Moment}

-- the parameters that are signed
abbrev pub parameters_of : (keys : Keys) (moment expires : ℕ) → List Pair
parameters_of keys moment expires =
    (codes "X-Amz-Algorithm", codes "AWS4-HMAC-SHA256") ∷ (codes "X-Amz-Credential", credential keys moment)
    ∷ (codes "X-Amz-Date", basic_time moment) ∷ (codes "X-Amz-Expires", decimal expires)
    ∷ (optional (codes "X-Amz-Security-Token") keys.token ++ (codes "X-Amz-SignedHeaders", codes "host") ∷ [])

-- the query, without the signature
abbrev pub presigned_query : (keys : Keys) (moment expires : ℕ) → List ℕ
presigned_query keys moment expires = canonical_query (parameters_of keys moment expires)

-- the canonical request of a GET whose only header is the host, and whose payload is not signed
abbrev pub presigned_request : (uri : S3Uri) (endpoint : Endpoint) (keys : Keys) (moment expires : ℕ) → List ℕ
presigned_request uri endpoint keys moment expires =
    canonical_request (codes "GET") (object_path uri.bucket uri.key) (parameters_of keys moment expires)
    ((codes "host", endpoint.written) ∷ []) (codes "UNSIGNED-PAYLOAD")

-- the URL: the endpoint, the path and the query, and the signature as the last parameter
abbrev pub presigned_url : (uri : S3Uri) (endpoint : Endpoint) (keys : Keys) (moment expires : ℕ) → List ℕ
presigned_url uri endpoint keys moment expires =
    codes "http://" ++ endpoint.written ++ encode_path (object_path uri.bucket uri.key)
    ++ codes "?" ++ presigned_query keys moment expires
    ++ codes "&X-Amz-Signature=" ++ signature keys moment (presigned_request uri endpoint keys moment expires)

-- why there is no URL: the seconds are not 1 to 604,800 (seven days), or the moment is past the year 9999
abbrev pub presign_fault : (moment expires : ℕ) → Option PresignFault
presign_fault moment expires =
    if nat_lt expires 1 || nat_lt 604800 expires then Some (Expires expires)
    else if nat_lt moment 253402300800 then None
    else Some Moment
