-- The names of two sides, put together in byte order.
use Rattle.std.specs.Prelude.{◌≡◌, ⊤, ℕ, List, [], ◌∷◌, ◌++◌, Option, filter_map, option_map, if◌then◌else◌}
use Rattle.std.specs.Cmp.Lexicographic.{slice_cmp}
use Rattle.std.specs.List.{AllByRecursion}
use Rattle.std.specs.Map.{lookup}
use Rattle.std.specs.Ordering.{nat_cmp, is_lt}
use Rattle.std.specs.Str.{bytes_eq}
use Rattle.std.specs.declared.cmp.Ordering.TheVariants.{Less}

-- what stands at a path
unfoldable pub found : {E : Type 0} → List ℕ → List (List ℕ × E) → Option E
found path names = lookup (bytes_eq path) names

-- what is chosen for the names of one side, each by what stands at its path on the other side
unfoldable pub chosen : {E X : Type 0} → (List ℕ × E → Option E → Option X) → (names others : List (List ℕ × E))
    → List (List ℕ × X)
chosen choose names others =
    filter_map (λ name. option_map (λ x. (name.0, x)) (choose name (found name.0 others))) names

-- one more item, before the first whose path is above its own
unfoldable pub placed : {X : Type 0} → List ℕ × X → List (List ℕ × X) → List (List ℕ × X)
placed item [] = item ∷ []
placed item (next ∷ items) =
    if is_lt (slice_cmp nat_cmp item.0 next.0) then item ∷ next ∷ items else next ∷ placed item items

-- in the byte order of their paths
unfoldable pub in_order : {X : Type 0} → List (List ℕ × X) → List (List ℕ × X)
in_order [] = []
in_order (item ∷ items) = placed item (in_order items)

-- what is chosen for the names of both sides, in byte order
unfoldable pub merged : {E X : Type 0} → (here there : List ℕ × E → Option E → Option X)
    → (source dest : List (List ℕ × E)) → List (List ℕ × X)
merged here there source dest = in_order (chosen here source dest ++ chosen there dest source)

-- all these paths are above a path
abbrev pub AllAbove : {X : Type 0} → List ℕ → List (List ℕ × X) → Type 0
AllAbove path items = AllByRecursion (λ item. slice_cmp nat_cmp path item.0 ≡ Less) items

-- the paths ascend in byte order, each once
abbrev pub Ascend : {X : Type 0} → List (List ℕ × X) → Type 0
Ascend [] = ⊤
Ascend (item ∷ items) = AllAbove item.0 items × Ascend items
