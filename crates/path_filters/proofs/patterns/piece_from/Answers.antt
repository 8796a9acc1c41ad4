use Rattle.path_filters.proofs.SetLemmas.{NeverClosed-tail, NeverClosed-first}
use Rattle.path_filters.proofs.patterns.piece_from.Goals.{else-closes-via-then-closes+else-code-eq91, else-closes-via-else-closes}
use Rattle.path_filters.proofs.patterns.piece_from.Goals as goal

pub returns-clause-piece : goal.returns-clause-piece
returns-clause-piece c = c.plain_piece.ensures _ (λ e. elim c.else-closes.branch [
  | else-closes-via-then-closes+else-code-eq91 w ↦ absurd (w.if-code-eq91.false e)
  | else-closes-via-else-closes w ↦ NeverClosed-first _ _ e (c.requires w.if-closes.false)
])

pub returns-clause-closes : goal.returns-clause-closes
returns-clause-closes c = λ none. NeverClosed-tail _ _ (c.requires none)
