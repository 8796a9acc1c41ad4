-- Paths, escaped piece by piece.
use Rattle.std.proofs.Common.{◌≡◌, ◌++◌, ◌∷◌, ◌∙◌, ℕ, List, ap, refl, codes, append_assoc}
use Rattle.std.proofs.lemmas.List.Concat.{flat_map-append}
use Rattle.s3_signing.specs.Paths.{bucket_path, object_path}
use Rattle.s3_signing.specs.Signing.{encode_path}

pub bucket_path_encoded : (bucket : List ℕ) → encode_path (bucket_path bucket) ≡ 47 ∷ encode_path bucket
unfolding encode_path
bucket_path_encoded bucket = refl

encode_path-append : (a b : List ℕ) → encode_path (a ++ b) ≡ encode_path a ++ encode_path b
unfolding encode_path
encode_path-append a b = flat_map-append _ a b

pub object_path_encoded : (bucket key : List ℕ) → encode_path (object_path bucket key) ≡ encode_path (bucket_path bucket) ++ 47 ∷ encode_path key
unfolding encode_path
object_path_encoded bucket key =
    encode_path-append (bucket_path bucket ++ codes "/") key ∙ ap (λ t. t ++ encode_path key) (encode_path-append (bucket_path bucket) (codes "/"))
    ∙ append_assoc (encode_path (bucket_path bucket)) (codes "/") (encode_path key)

pub ruleset paths = (append_assoc, bucket_path_encoded, object_path_encoded)
