-- Where the paths below a folder stand among all paths in byte order.
use Rattle.std.specs.Prelude.{◌≡◌, ◌++◌, ℕ, List, [], ◌∷◌}
use Rattle.s3_model.specs.Files.{folder_path}

-- they stand from the folder's path with its final `/` on, up to the same text with `0`, the next byte, in its place
pub record AreEnds (folder first last : List ℕ) : Type 0 where
  pub stem : List ℕ
  pub path : folder_path folder ≡ stem ++ 47 ∷ []
  pub begins : first ≡ stem ++ 47 ∷ []
  pub ends : last ≡ stem ++ 48 ∷ []
