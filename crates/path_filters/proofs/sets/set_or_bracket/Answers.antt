use Rattle.path_filters.proofs.SetLemmas.{NeverClosed-behind}
use Rattle.path_filters.proofs.sets.set_or_bracket.Goals as goal

pub returns-in_default-clause-closes : goal.returns-in_default-clause-closes
returns-in_default-clause-closes c = λ _. NeverClosed-behind _ c.in_default.ensures.closed
