-- What a place is, where it is there.
use Rattle.std.specs.Prelude.{ℕ, List, [], Option, Some, None}
use Rattle.s3_model.specs.declared.places.Place.{Place}
use Rattle.s3_model.specs.declared.places.Place.TheVariants as place

abbrev pub path_at : Option Place → List ℕ
path_at (Some (place.File path)) = path
path_at at = []

abbrev pub bucket_at : Option Place → List ℕ
bucket_at (Some (place.Object bucket key)) = bucket
bucket_at at = []

abbrev pub key_at : Option Place → List ℕ
key_at (Some (place.Object bucket key)) = key
key_at at = []

abbrev pub IsFile : Option Place → Type 0
IsFile (Some (place.File path)) = Unit {0}
IsFile at = ⊥

abbrev pub IsObject : Option Place → Type 0
IsObject (Some (place.Object bucket key)) = Unit {0}
IsObject at = ⊥

-- all buckets are listed, or what a bucket has below a prefix
abbrev pub IsListed : Option Place → Type 0
IsListed None = Unit {0}
IsListed at = IsObject at
