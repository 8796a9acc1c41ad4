use Rattle.std.proofs.Common.{◌↔◌, ◌⊎◌, ◌≡◌, ◌++◌, ℕ, List, IsSome, map}
use Rattle.std.specs.FinMap.{get}
use Rattle.file_table.proofs.ShownLemmas.{Shown, text_in}
use Rattle.file_table.proofs.keys_below.add_direct.Given as goal
use Rattle.local_files.specs.Names.{IsName}
use Rattle.s3_model.specs.Files.{folder_path}

-- the names of the keys so far were added
abbrev pub invariant-loop-key : goal.invariant-loop-key
invariant-loop-key g l = (name : List ℕ) → IsSome (get l.found name) ↔ (IsSome (get l.initial.found name) ⊎ Shown (λ (key : List ℕ). IsName name × (key ≡ folder_path l.folder ++ name)) (map text_in l.yielded))
