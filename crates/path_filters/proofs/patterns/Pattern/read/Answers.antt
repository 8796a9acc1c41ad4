use Rattle.std.proofs.Common.{List, [], subst}
use Rattle.std.specs.Str.{chars}
use Rattle.std.proofs.lemmas.List.{append-nil}
use Rattle.path_filters.specs.declared.pieces.Piece.{Piece}
use Rattle.path_filters.specs.Patterns.{IsPattern}
use Rattle.path_filters.proofs.ReadingLemmas.{IsPattern-same}
use Rattle.path_filters.proofs.TextLemmas.{chars_empty}
use Rattle.path_filters.proofs.patterns.Pattern.read.Goals as goal

pub returns-clause-spelled : goal.returns-clause-spelled
returns-clause-spelled c =
    let ended = chars_empty _ c.in_default.ensures.parts in
    subst (λ (pieces : List Piece). IsPattern (chars c.args.text.now) pieces) (append-nil c.loop-code.pieces.items) (c.loop-code.invariant.1 [] ended)

pub returns-clause-alone : goal.returns-clause-alone
returns-clause-alone c = λ pieces h. IsPattern-same _ pieces _ h (returns-clause-spelled c)
