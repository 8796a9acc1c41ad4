use Rattle.std.proofs.Common.{◌≡◌, ◌⊎◌, ◌++◌, ◌<◌, ◌∷◌, [], ℕ, true, List, length}
use Rattle.s3_model.specs.Files.{is_below, is_listed}
use Rattle.file_table.proofs.folders.add_folders.Given as goal

-- the folders up to this place are listed, and no others were added
abbrev pub invariant-loop-end : goal.invariant-loop-end
invariant-loop-end l = record {
  only : (f : List ℕ) → is_listed l.folders f ≡ true → (is_below f l.path ≡ true) ⊎ (is_listed l.initial.folders f ≡ true);
  kept : (f : List ℕ) → is_listed l.initial.folders f ≡ true → is_listed l.folders f ≡ true;
  each : (front back : List ℕ) → l.path ≡ front ++ 47 ∷ back → length front < l.end
      → (is_listed l.folders front ≡ true) × (is_listed l.folders (front ++ 47 ∷ []) ≡ true);
}
