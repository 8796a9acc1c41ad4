use Rattle.std.proofs.Common.{◌≡◌, ◌∷◌, ◌++◌, length}
use denote.Text.{Utf8}
use denote.Shadow.{shadow}
use Rattle.std.specs.Str.{chars}
use Rattle.path_filters.specs.Patterns.{ranges_of}
use Rattle.path_filters.proofs.sets.ranges.Given as goal

-- the ranges so far, and those of what is left
abbrev pub invariant-loop-code : goal.invariant-loop-code
invariant-loop-code l =
    shadow (Utf8 l.left) × (l.ranges ++ ranges_of (chars l.left) ≡ ranges_of (l.fn.first ∷ chars l.fn.others))

abbrev pub decreases-loop-code : goal.decreases-loop-code
decreases-loop-code l = length l.left
