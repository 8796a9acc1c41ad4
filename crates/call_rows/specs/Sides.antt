-- A place with what is listed below it.
use Rattle.std.specs.Prelude.{◌≡◌, ⊤, ℕ, List, Option, Some, None}
use Rattle.s3_model.specs.declared.places.Place.{Place}
use Rattle.s3_model.specs.declared.places.Place.TheVariants as place

-- an object's key is the prefix of its listing
abbrev pub IsListedBy : Place → (prefix : List ℕ) → Type 0
IsListedBy (place.Object bucket key) prefix = prefix ≡ key
IsListedBy (place.File path) prefix = ⊤

abbrev pub IsListedAt : Option Place → (prefix : List ℕ) → Type 0
IsListedAt None prefix = ⊤
IsListedAt (Some at) prefix = IsListedBy at prefix
