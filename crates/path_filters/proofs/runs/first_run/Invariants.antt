use Rattle.std.proofs.Common.{◌∷◌, ◌↔◌, length}
use denote.Text.{Utf8}
use denote.Shadow.{shadow}
use Rattle.std.specs.Str.{chars}
use Rattle.path_filters.specs.declared.pieces.Piece.TheVariants.{Star}
use Rattle.path_filters.specs.Patterns.{Matches}
use Rattle.path_filters.proofs.runs.first_run.Given as goal

-- the star matches the text just where it matches what is left of it
abbrev pub invariant-loop-left : goal.invariant-loop-left
invariant-loop-left l =
    shadow (Utf8 l.from) × (Matches (Star ∷ l.fn.pieces) (chars l.fn.text) ↔ Matches (Star ∷ l.fn.pieces) (chars l.from))

abbrev pub decreases-loop-left : goal.decreases-loop-left
decreases-loop-left l = length l.from
