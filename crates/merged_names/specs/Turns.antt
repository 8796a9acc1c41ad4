-- One turn of a merge: what stands at the least path of two sides.
use Rattle.std.specs.Prelude.{◌≡◌, ⊤, ℕ, List, [], ◌∷◌, Option, Some, None}
use Rattle.std.specs.Cmp.Lexicographic.{slice_cmp}
use Rattle.std.specs.Ordering.{nat_cmp}
use Rattle.std.specs.declared.cmp.Ordering.TheVariants.{Less}

-- below the first path of these names
abbrev pub IsBefore : {E : Type 0} → List ℕ → List (List ℕ × E) → Type 0
IsBefore path [] = ⊤
IsBefore path (name ∷ names) = slice_cmp nat_cmp path name.0 ≡ Less

-- The first names of both sides are taken where they have the same path, else the one with the lesser path, or none.
abbrev pub IsTurn : {E : Type 0} → (path : List ℕ) → (ours theirs : Option E)
    → (source dest source' dest' : List (List ℕ × E)) → Type 0
IsTurn path None None source dest source' dest' = (source ≡ source') × (dest ≡ dest')
IsTurn path (Some entry) None source dest source' dest' =
    (source ≡ (path, entry) ∷ source') × (dest ≡ dest') × IsBefore path dest
IsTurn path None (Some entry) source dest source' dest' =
    (source ≡ source') × (dest ≡ (path, entry) ∷ dest') × IsBefore path source
IsTurn path (Some entry) (Some other) source dest source' dest' =
    (source ≡ (path, entry) ∷ source') × (dest ≡ (path, other) ∷ dest')

-- what is chosen at one path, by what stands there on either side
abbrev pub chosen_at : {E X : Type 0} → (here there : List ℕ × E → Option E → Option X)
    → (path : List ℕ) → (ours theirs : Option E) → Option X
chosen_at here there path None None = None
chosen_at here there path (Some entry) theirs = here (path, entry) theirs
chosen_at here there path None (Some entry) = there (path, entry) None
