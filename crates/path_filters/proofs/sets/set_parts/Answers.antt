use Rattle.path_filters.proofs.SetLemmas.{unclosed_at_end, unclosed}
use Rattle.path_filters.proofs.TextLemmas.{chars_empty}
use Rattle.path_filters.proofs.sets.set_parts.Goals as goal

pub returns-in_default-clause-closed : goal.returns-in_default-clause-closed
returns-in_default-clause-closed c =
    unclosed_at_end _ _ _ c.negation-negated.ensures.whole c.negation-negated.ensures.plain (chars_empty _ c.in_default.ensures.parts)

pub returns-in_default-split_at_bracket-clause-closed :
    goal.returns-in_default-split_at_bracket-clause-closed
returns-in_default-split_at_bracket-clause-closed c =
    unclosed _ _ _ _ _ c.negation-negated.ensures.whole c.negation-negated.ensures.plain c.in-Some.ensures.parts c.in_default-split_at_bracket.ensures.parts
