-- The parts of an upload, as the entries of a tree with their numbers.
use Rattle.std.specs.Prelude.{ℕ, List}
use Rattle.std.specs.Ordering.{nat_cmp}
use Rattle.std.specs.FinMap.{FinMap, from_entries}

abbrev pub part_map : {V : Type 0} → List (ℕ × V) → FinMap nat_cmp V
part_map entries = from_entries entries
