use Rattle.std.proofs.Common.{length}
use denote.Text.{Utf8}
use denote.Shadow.{shadow}
use Rattle.std.specs.Str.{chars}
use Rattle.path_filters.specs.Runs.{IsLeft}
use Rattle.path_filters.proofs.runs.run.Given as goal

-- the pieces so far took a character each
abbrev pub invariant-loop-piece : goal.invariant-loop-piece
invariant-loop-piece l = shadow (Utf8 l.rest) × IsLeft l.fn.pieces (chars l.fn.text) l.left (chars l.rest)

abbrev pub decreases-loop-piece : goal.decreases-loop-piece
decreases-loop-piece l = length l.left
