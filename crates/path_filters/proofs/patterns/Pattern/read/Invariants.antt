use Rattle.std.proofs.Common.{◌≡◌, false, List, ◌++◌, length}
use denote.Text.{Utf8}
use denote.Shadow.{shadow}
use Rattle.std.specs.Str.{chars}
use Rattle.path_filters.specs.declared.pieces.Piece.{Piece}
use Rattle.path_filters.specs.Patterns.{IsPattern}
use Rattle.path_filters.specs.Sets.{NeverClosed}
use Rattle.path_filters.proofs.patterns.Pattern.read.Given as goal

-- Whatever pieces the rest spells, the text spells those so far and them. After a `[` that nothing closes none is looked for.
abbrev pub invariant-loop-code : goal.invariant-loop-code
invariant-loop-code l =
    shadow (Utf8 l.left) × ((more : List Piece) → IsPattern (chars l.left) more → IsPattern (chars l.fn.text) (l.pieces.items ++ more))
    × (l.closes ≡ false → NeverClosed (chars l.left))

abbrev pub decreases-loop-code : goal.decreases-loop-code
decreases-loop-code l = length l.left
