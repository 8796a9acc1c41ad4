-- Names with values, and their order.
use Rattle.std.specs.Prelude.{◌∷◌, ℕ, List, [], Option, Some, None, if◌then◌else◌}
use Rattle.std.specs.declared.cmp.Ordering.{Ordering}
use Rattle.std.specs.Cmp.Lexicographic.{slice_cmp}
use Rattle.std.specs.Ordering.{is_gt, nat_cmp, ordering_then}

-- a name and its value
abbrev pub Pair : Type 0
Pair = List ℕ × List ℕ

-- a pair where there is a value, else none
abbrev pub optional : List ℕ → Option (List ℕ) → List Pair
optional name None = []
optional name (Some value) = (name, value) ∷ []

-- by name and then by value, in the order of their bytes
abbrev pub pair_cmp : Pair → Pair → Ordering
pair_cmp a b = ordering_then (slice_cmp nat_cmp a.0 b.0) (slice_cmp nat_cmp a.1 b.1)

-- the pair, put before the first that is not less
unfoldable pub insert_pair : Pair → List Pair → List Pair
insert_pair p [] = p ∷ []
insert_pair p (q ∷ rest) = if is_gt (pair_cmp p q) then q ∷ insert_pair p rest else p ∷ q ∷ rest

-- the pairs in ascending order
unfoldable pub sort_pairs : List Pair → List Pair
sort_pairs [] = []
sort_pairs (p ∷ rest) = insert_pair p (sort_pairs rest)
