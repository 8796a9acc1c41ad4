use Rattle.std.proofs.Common.{◌↔◌, ◌⊎◌, ℕ, List, IsSome, map}
use Rattle.std.specs.FinMap.{get}
use Rattle.file_table.proofs.ShownLemmas.{Shown, text_in}
use Rattle.file_table.proofs.keys_below.add_names.Given as goal
use Rattle.file_table.specs.Names.{IsNamedIn}

-- the names that the keys so far show were added
abbrev pub invariant-loop-key : goal.invariant-loop-key
invariant-loop-key g l = (name : List ℕ) → IsSome (get l.found name) ↔ (IsSome (get l.initial.found name) ⊎ Shown (λ (key : List ℕ). IsNamedIn l.folder name key) (map text_in l.yielded))
