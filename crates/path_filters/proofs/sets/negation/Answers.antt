use Rattle.path_filters.proofs.SetLemmas.{no_mark}
use Rattle.path_filters.proofs.sets.negation.Goals as goal

pub returns-in_default-clause-plain : goal.returns-in_default-clause-plain
returns-in_default-clause-plain c = λ _ rest. no_mark c.args.text.now c.in_default.ensures.parts rest
