use Rattle.std.proofs.Common.{◌↔◌, length}
use denote.Text.{Utf8}
use denote.Shadow.{shadow}
use Rattle.std.specs.Str.{chars}
use Rattle.path_filters.specs.Patterns.{Matches}
use Rattle.path_filters.specs.Runs.{StopsAtStar}
use Rattle.path_filters.proofs.runs.matches.Given as goal

-- the pieces match the text just where those that are left, a star first, match what is left of it
abbrev pub invariant-loop-more : goal.invariant-loop-more
invariant-loop-more l =
    shadow (Utf8 l.rest) × (Matches l.fn.pieces (chars l.fn.text) ↔ Matches l.left (chars l.rest)) × StopsAtStar l.left

abbrev pub decreases-loop-more : goal.decreases-loop-more
decreases-loop-more l = length l.left
