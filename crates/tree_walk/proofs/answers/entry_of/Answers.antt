use Rattle.std.proofs.Common.{rules}
use Rattle.tree_walk.proofs.answers.entry_of.Goals as goal

pub returns : goal.returns
returns c = search rules
