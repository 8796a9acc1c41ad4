-- S3 URIs, and which rule a text that is none breaks.
use Rattle.std.specs.Prelude.{◌≡◌, ◌≤◌, ◌==◌, ◌||◌, ◌++◌, ◌⊎◌, ℕ, Bool, not, List, [], Option, Some, None, length, take}
use Rattle.std.specs.Prelude.{drop, position, codes, nat_eq, nat_lt, option_map, if◌then◌else◌}
use Rattle.std.specs.Char.{is_ascii_alphanumeric}
use Rattle.std.specs.List.{AllPass, starts_with, before_first, after_first}
use Rattle.std.specs.Option.{option_or}
use Rattle.s3_model.specs.declared.faults.UriFault.{UriFault}
use Rattle.s3_model.specs.declared.faults.UriFault.TheVariants.{NotS3, NoBucket, BadBucket, LongKey}

abbrev pub is_slash : ℕ → Bool
is_slash byte = byte == 47

-- what stands between `s3://` and the next `/`
abbrev pub bucket_in : List ℕ → List ℕ
bucket_in text = before_first is_slash (drop 5 text)

-- what follows that `/`; empty where there is none
abbrev pub key_in : List ℕ → List ℕ
key_in text = after_first is_slash (drop 5 text)

-- letters, digits, `.`, `-` and `_`
abbrev pub is_bucket_byte : ℕ → Bool
is_bucket_byte byte = is_ascii_alphanumeric byte || byte == 46 || byte == 45 || byte == 95

-- the first place in a bucket's name of a byte that none may have; 255 is such a place in a longer name
abbrev pub bad_place : List ℕ → Option ℕ
bad_place bucket = option_or (position (λ byte. not (is_bucket_byte byte)) (take 255 bucket))
    (if nat_lt 255 (length bucket) then Some 255 else None)

abbrev pub bucket_fault : List ℕ → Option UriFault
bucket_fault [] = Some NoBucket
bucket_fault bucket = option_map BadBucket (bad_place bucket)

abbrev pub key_fault : List ℕ → Option UriFault
key_fault key = if nat_lt 1024 (length key) then Some (LongKey (length key)) else None

-- the first rule that a text breaks
abbrev pub uri_fault : List ℕ → Option UriFault
uri_fault text =
    if starts_with nat_eq text (codes "s3://") then option_or (bucket_fault (bucket_in text)) (key_fault (key_in text))
    else Some NotS3

-- how a bucket and a key are written as one text
abbrev pub uri_text : List ℕ → List ℕ → List ℕ
uri_text bucket key = codes "s3://" ++ bucket ++ codes "/" ++ key

-- a text names a bucket and a key as `s3://bucket/key`, or as `s3://bucket` with the empty key
pub record IsUri (text bucket key : List ℕ) : Type 0 where
  pub written : (text ≡ uri_text bucket key) ⊎ ((text ≡ codes "s3://" ++ bucket) × (key ≡ []))
  pub named : 1 ≤ length bucket
  pub short_name : length bucket ≤ 255
  pub plain_name : AllPass is_bucket_byte bucket
  pub short_key : length key ≤ 1024
