-- Paths and queries of requests, as they are written.
use Rattle.std.proofs.Common.{◌≡◌, ◌++◌, ◌∷◌, ◌∙◌, ℕ, Bool, true, false, List, [], Option, Some, None, ap, sym, refl, codes, append_assoc, append-nil}
use Rattle.std.specs.Prelude.{decimal}
use Rattle.percent_encoding.specs.Percent.{percent_encode_byte}
use Rattle.s3_requests.specs.Headers.{delimiter_text, token_text}
use Rattle.s3_signing.specs.Pairs.{insert_pair, sort_pairs}
use Rattle.s3_requests.specs.Requests.{list_parameters, part_parameters, target_query, upload_id, uploads}
use Rattle.s3_signing.specs.Signing.{canonical_query, encode_path, encode_query, parameters}

pub service_path : encode_path (codes "/") ≡ codes "/"
unfolding encode_path
service_path = refl

pub uploads_query : canonical_query (uploads ∷ []) ≡ codes "uploads="
unfolding canonical_query encode_query parameters sort_pairs insert_pair
uploads_query = refl

pub upload_query : (upload : List ℕ) → canonical_query (upload_id upload ∷ []) ≡ codes "uploadId=" ++ encode_query upload
unfolding canonical_query encode_query parameters sort_pairs insert_pair
upload_query upload = refl

pub part_query : (number : ℕ) (upload : List ℕ) → canonical_query (part_parameters number upload) ≡ codes "partNumber=" ++ encode_query (decimal number) ++ (codes "&uploadId=" ++ encode_query upload)
unfolding canonical_query encode_query parameters sort_pairs insert_pair
part_query number upload = refl

pub list_query : (prefix : List ℕ) (delimited : Bool) (token : Option (List ℕ)) → canonical_query (list_parameters prefix delimited token) ≡ token_text token ++ delimiter_text delimited ++ codes "encoding-type=url&list-type=2" ++ (codes "&prefix=" ++ encode_query prefix)
unfolding canonical_query encode_query parameters sort_pairs insert_pair percent_encode_byte
list_query prefix true None = refl
list_query prefix false None = refl
list_query prefix true (Some token) = simp append_assoc
list_query prefix false (Some token) = simp append_assoc

-- the same behind what was written before
pub listing_written : (old prefix : List ℕ) (delimited : Bool) (token : Option (List ℕ)) → old ++ token_text token ++ delimiter_text delimited ++ codes "encoding-type=url&list-type=2" ++ (codes "&prefix=" ++ encode_query prefix) ≡ old ++ canonical_query (list_parameters prefix delimited token)
listing_written old prefix delimited token = rw (list_query prefix delimited token) (simp append_assoc)

pub no_query : canonical_query [] ≡ []
unfolding canonical_query encode_query parameters sort_pairs
no_query = refl

pub ruleset queries = (append_assoc, append-nil, no_query, uploads_query, upload_query, part_query, list_query)

-- the query of the request line, by the query that is signed
pub no_target : target_query [] ≡ []
unfolding target_query encode_query sort_pairs
no_target = refl

pub uploads_target : target_query (uploads ∷ []) ≡ codes "?uploads"
unfolding target_query encode_query sort_pairs insert_pair
uploads_target = refl

pub upload_target : (upload : List ℕ) → target_query (upload_id upload ∷ []) ≡ codes "?" ++ canonical_query (upload_id upload ∷ [])
unfolding target_query canonical_query encode_query parameters sort_pairs insert_pair
upload_target upload = refl

pub part_target : (number : ℕ) (upload : List ℕ) → target_query (part_parameters number upload) ≡ codes "?" ++ canonical_query (part_parameters number upload)
unfolding target_query canonical_query encode_query parameters sort_pairs insert_pair
part_target number upload = refl

pub list_target : (prefix : List ℕ) (delimited : Bool) (token : Option (List ℕ)) → target_query (list_parameters prefix delimited token) ≡ codes "?" ++ canonical_query (list_parameters prefix delimited token)
unfolding target_query canonical_query encode_query parameters sort_pairs insert_pair percent_encode_byte
list_target prefix true None = refl
list_target prefix false None = refl
list_target prefix true (Some token) = refl
list_target prefix false (Some token) = refl

pub ruleset targets = (append_assoc, append-nil, no_target, uploads_target, upload_target, part_target, list_target)
