-- How the characters of a set are read.
use Rattle.std.specs.Prelude.{◌≡◌, ◌++◌, ℕ, List, ◌∷◌}
use Rattle.path_filters.specs.Patterns.{hyphen, opening, IsClosed}

-- a `-` and then a character
abbrev pub IsRangeEnd : List ℕ → Type 0
IsRangeEnd text = (last : ℕ) × (rest : List ℕ) × (text ≡ hyphen ∷ last ∷ rest)

-- no `[` of the text is closed
abbrev pub NeverClosed : List ℕ → Type 0
NeverClosed text = (front : List ℕ) → (after : List ℕ) → text ≡ front ++ opening ∷ after → ¬ (IsClosed after)
