-- The name that a path shows in a folder.
use Rattle.std.specs.Prelude.{◌≡◌, ◌==◌, ◌⊎◌, ◌++◌, ℕ, false, List, [], ◌∷◌}
use Rattle.std.specs.List.{list_any}
use Rattle.s3_model.specs.Files.{folder_path}
use Rattle.local_files.specs.Names.{IsName}

-- a text goes on to its end, or to its first `/`
abbrev pub IsFirst : (path name : List ℕ) → Type 0
IsFirst path name = (list_any (λ (byte : ℕ). byte == 47) name ≡ false) × (rest : List ℕ) × (path ≡ name ++ rest)
    × ((rest ≡ []) ⊎ ((more : List ℕ) × (rest ≡ 47 ∷ more)))

-- a path is that of a name in a folder, or goes on from it
abbrev pub IsNamedIn : (folder name path : List ℕ) → Type 0
IsNamedIn folder name path = IsName name × (rest : List ℕ) × (path ≡ folder_path folder ++ name ++ rest)
    × ((rest ≡ []) ⊎ ((more : List ℕ) × (rest ≡ 47 ∷ more)))
