use Rattle.std.proofs.Common.{rules}
use Rattle.tree_walk.proofs.paths.child.Goals as goal

pub returns : goal.returns
returns c = search rules
