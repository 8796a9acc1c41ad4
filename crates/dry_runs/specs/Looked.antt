-- The warnings of what a walk found.
use Rattle.std.specs.Prelude.{◌==◌, ◌++◌, ℕ, List, [], ◌∷◌, map, if◌then◌else◌}
use Rattle.s3_model.specs.declared.tasks.Warning.{Warning}
use Rattle.s3_model.specs.declared.tasks.Warning.TheVariants as warning
use Rattle.s3_paths.specs.Names.{local_path}

-- names that are not UTF-8, where there are any
abbrev pub unnamed_warnings : ℕ → List Warning
unnamed_warnings unnamed = if unnamed == 0 then [] else warning.Unnamed unnamed ∷ []

-- what is neither file nor folder, by its path below the root
abbrev pub not_a_file : (root path : List ℕ) → Warning
not_a_file root path = warning.NotAFile (local_path root path)

-- the names that are not UTF-8 in all folders, and then each thing that is no file, in byte order
abbrev pub looked_in : (root : List ℕ) → (others : List (List ℕ)) → (unnamed : ℕ) → List Warning
looked_in root others unnamed = unnamed_warnings unnamed ++ map (not_a_file root) others
