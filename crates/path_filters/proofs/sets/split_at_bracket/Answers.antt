use Rattle.path_filters.proofs.SetLemmas.{split_chars}
use Rattle.path_filters.proofs.sets.split_at_bracket.Goals as goal

pub returns-clause-parts : goal.returns-clause-parts
returns-clause-parts c = (split_chars c.args.text.now c.split_once.result c.utf8.text c.split_once.ensures.cases).0

pub returns-clause-before : goal.returns-clause-before
returns-clause-before c = (split_chars c.args.text.now c.split_once.result c.utf8.text c.split_once.ensures.cases).1
