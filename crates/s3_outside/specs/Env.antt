-- What is seen of an environment.
use Rattle.std.specs.Prelude.{◌++◌, ℕ, Bool, List, [], ◌∷◌, Option, Some, None, if◌then◌else◌}
use Rattle.std.specs.FinMap.{insert}
use Rattle.s3_model.specs.Maps.{MapOf}

-- the variables by name, the bytes of the files by path, and the paths of the files that were asked for, in order
pub record SeenEnv : Type 0 where
  pub variables : MapOf (List ℕ)
  pub files : MapOf (List ℕ)
  pub asked : List (List ℕ)

abbrev pub sets : List ℕ → List ℕ → SeenEnv → SeenEnv
sets name value env = record env { variables = insert env.variables name value }

abbrev pub puts : List ℕ → List ℕ → SeenEnv → SeenEnv
puts path bytes env = record env { files = insert env.files path bytes }

abbrev pub asks : List ℕ → SeenEnv → SeenEnv
asks path env = record env { asked = env.asked ++ path ∷ [] }

-- the environment, as long as there was memory for all paths
abbrev pub seen_env : Bool → MapOf (List ℕ) → MapOf (List ℕ) → List (List ℕ) → Option SeenEnv
seen_env is_whole variables files asked =
    if is_whole then Some (record { variables = variables; files = files; asked = asked }) else None
