use Rattle.std.proofs.Common.{List, ap, ◌∙◌}
use Rattle.std.specs.Str.{chars}
use Rattle.std.proofs.lemmas.Bool.Decides.{same_from_decides}
use Rattle.path_filters.specs.declared.pieces.Piece.{Piece}
use Rattle.path_filters.specs.Patterns.{is_match}
use Rattle.path_filters.proofs.TestLemmas.{is_match-decides}
use Rattle.path_filters.proofs.patterns.Pattern.matches.Goals as goal

pub returns-clause-value : goal.returns-clause-value
returns-clause-value c =
    same_from_decides _ _ c.matches.ensures (is_match-decides _ _)
    ∙ ap (λ (pieces : List Piece). is_match pieces (chars c.args.path.now)) (c.as_slice.ensures.value ∙ c.self.view_is)
