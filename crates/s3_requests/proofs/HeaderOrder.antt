-- The headers of a request in the order of their names.
use Rattle.std.proofs.Common.{◌≡◌, ◌++◌, ◌∷◌, [], ℕ, List, Bool, true, false, Option, Some, None, codes, refl, append_assoc}
use Rattle.std.specs.Option.{option_copied}
use Rattle.s3_requests.specs.Descriptions.{own_in}
use Rattle.s3_requests.specs.declared.description.OwnHeaders.{OwnHeaders}
use Rattle.s3_requests.specs.declared.description.OwnHeaders.TheVariants as own
use Rattle.s3_requests.specs.declared.own.HeaderValues.{HeaderValues}
use Rattle.s3_requests.specs.Headers.{common_in, condition_headers, content_headers, copy_headers, copy_range_headers}
use Rattle.s3_requests.specs.Requests.{content_type, copy_range, copy_source, if_none_match, read_headers}
use Rattle.s3_signing.specs.Pairs.{Pair, insert_pair, optional, sort_pairs}

module _ (host hash date : List ℕ) where
  abbrev common : Option (List ℕ) → List Pair
  common token =
      (codes "host", host) ∷ (codes "x-amz-content-sha256", hash) ∷ (codes "x-amz-date", date)
      ∷ optional (codes "x-amz-security-token") token

  abbrev among : (content conditions source range : List Pair) → Option (List ℕ) → List Pair
  among content conditions source range token =
      content ++ (codes "host", host) ∷ (conditions ++ (codes "x-amz-content-sha256", hash)
      ∷ (source ++ (range ++ (codes "x-amz-date", date) ∷ optional (codes "x-amz-security-token") token)))

  nothing : (token : Option (List ℕ)) → sort_pairs (common token) ≡ among [] [] [] [] token
  unfolding sort_pairs insert_pair
  nothing None = refl
  nothing (Some token) = refl

  upload : (content : Option (List ℕ)) (fresh : Bool) (token : Option (List ℕ))
      → sort_pairs ((content_type content ++ if_none_match fresh) ++ common token)
      ≡ among (content_type content) (if_none_match fresh) [] [] token
  unfolding sort_pairs insert_pair
  upload None false None = refl
  upload None false (Some token) = refl
  upload None true None = refl
  upload None true (Some token) = refl
  upload (Some content) false None = refl
  upload (Some content) false (Some token) = refl
  upload (Some content) true None = refl
  upload (Some content) true (Some token) = refl

  read : (etag : List ℕ) (range : Option (ℕ × ℕ)) (token : Option (List ℕ))
      → sort_pairs (read_headers etag range ++ common token) ≡ among [] (read_headers etag range) [] [] token
  unfolding sort_pairs insert_pair
  read etag None None = refl
  read etag None (Some token) = refl
  read etag (Some range) None = refl
  read etag (Some range) (Some token) = refl

  copy : (bucket key etag : List ℕ) (token : Option (List ℕ))
      → sort_pairs (copy_source bucket key etag ++ common token) ≡ among [] [] (copy_source bucket key etag) [] token
  unfolding sort_pairs insert_pair
  copy bucket key etag None = refl
  copy bucket key etag (Some token) = refl

  range_copy : (bucket key etag : List ℕ) (range : ℕ × ℕ) (token : Option (List ℕ))
      → sort_pairs ((copy_source bucket key etag ++ copy_range range) ++ common token)
      ≡ among [] [] (copy_source bucket key etag) (copy_range range) token
  unfolding sort_pairs insert_pair
  range_copy bucket key etag range None = refl
  range_copy bucket key etag range (Some token) = refl

pub in_order : (h : OwnHeaders) (v : HeaderValues) → sort_pairs (own_in h ++ common_in v)
    ≡ content_headers h ++ (codes "host", v.host.now) ∷ (condition_headers h
    ++ (codes "x-amz-content-sha256", v.payload_hash.now) ∷ (copy_headers h ++ (copy_range_headers h
    ++ (codes "x-amz-date", v.date.now) ∷ optional (codes "x-amz-security-token") (option_copied v.token))))
in_order own.Nothing v = nothing v.host.now v.payload_hash.now v.date.now (option_copied v.token)
in_order (own.Upload content fresh) v =
    upload v.host.now v.payload_hash.now v.date.now (option_copied content) fresh (option_copied v.token)
in_order (own.Read etag range) v =
    read v.host.now v.payload_hash.now v.date.now etag.now range (option_copied v.token)
in_order (own.Copy source) v =
    copy v.host.now v.payload_hash.now v.date.now source.bucket.now source.key.now source.etag.now
    (option_copied v.token)
in_order (own.RangeCopy source range) v =
    range_copy v.host.now v.payload_hash.now v.date.now source.bucket.now source.key.now source.etag.now range
    (option_copied v.token)

pub ruleset orders = (append_assoc, in_order)
