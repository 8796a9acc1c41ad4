use Rattle.std.proofs.Common.{rules}
use Rattle.answer_classes.proofs.classes.classify.Goals as goal

pub returns-in-Broken-clause-broken : goal.returns-in-Broken-clause-broken
returns-in-Broken-clause-broken c = search rules
