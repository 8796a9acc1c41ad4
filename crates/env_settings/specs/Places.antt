-- Where the settings files are (AWS CLI User Guide, "Configuration and credential file settings").
use Rattle.std.specs.Prelude.{◌++◌, ◌==◌, ℕ, List, [], ◌∷◌, Option, Some, None, length, codes, option_map, unwrap_or}
use Rattle.std.specs.Prelude.{if◌then◌else◌}
use Rattle.std.specs.Option.{option_or}
use Rattle.std.specs.FinMap.{get}
use Rattle.s3_model.specs.Maps.{MapOf}

-- an empty variable counts as not set
abbrev pub not_empty : Option (List ℕ) → Option (List ℕ)
not_empty None = None
not_empty (Some text) = if length text == 0 then None else Some text

abbrev pub set_value : MapOf (List ℕ) → List ℕ → Option (List ℕ)
set_value variables name = not_empty (get variables name)

-- the path that a variable names, else the one below the home folder
abbrev pub path_of : MapOf (List ℕ) → (name below : List ℕ) → Option (List ℕ)
path_of variables name below =
    option_or (set_value variables name) (option_map (λ home. home ++ below) (set_value variables (codes "HOME")))

abbrev pub config_path : MapOf (List ℕ) → Option (List ℕ)
config_path variables = path_of variables (codes "AWS_CONFIG_FILE") (codes "/.aws/config")

abbrev pub credentials_path : MapOf (List ℕ) → Option (List ℕ)
credentials_path variables = path_of variables (codes "AWS_SHARED_CREDENTIALS_FILE") (codes "/.aws/credentials")

abbrev pub listed : Option (List ℕ) → List (List ℕ)
listed None = []
listed (Some path) = path ∷ []

-- the files of settings, the config file first
abbrev pub settings_paths : MapOf (List ℕ) → List (List ℕ)
settings_paths variables = listed (config_path variables) ++ listed (credentials_path variables)

-- what the file at a path holds; without a path or a file, nothing
abbrev pub bytes_at : MapOf (List ℕ) → Option (List ℕ) → List ℕ
bytes_at files None = []
bytes_at files (Some path) = unwrap_or (get files path) []
