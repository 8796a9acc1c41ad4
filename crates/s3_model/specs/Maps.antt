-- Finite maps from texts, in byte order.
use Rattle.std.specs.Ordering.{nat_cmp}
use Rattle.std.specs.Cmp.Lexicographic.{slice_cmp}
use Rattle.std.specs.FinMap.{FinMap}

abbrev pub MapOf : Type 0 → Type 0
MapOf V = FinMap (slice_cmp nat_cmp) V
