-- Parts that were put together.
use Rattle.std.specs.Prelude.{◌≡◌, ℕ, List, [], ◌∷◌, flat_map, length}
use Rattle.s3_service.specs.ServiceState.{Upload}
use Rattle.s3_service.specs.Serves.{AllButLastHave, Assembles}

-- the length of the last piece, or the default where there is none
abbrev pub last_length : ℕ → List (List ℕ) → ℕ
last_length default [] = default
last_length default (piece ∷ []) = length piece
last_length default (piece ∷ next ∷ pieces) = last_length default (next ∷ pieces)

-- the parts with these ETags in order, all but the last of at least so many bytes, make these bytes
pub record Joined (upload : Upload) (least : ℕ) (etags : List (List ℕ)) (bytes : List ℕ) (last : ℕ) : Type 0 where
  pub pieces : List (List ℕ)
  pub parts : Assembles upload 1 etags pieces
  pub enough : AllButLastHave least pieces
  pub count : length pieces ≡ length etags
  pub last_is : last_length least pieces ≡ last
  pub bytes_are : bytes ≡ flat_map (λ piece. piece) pieces
