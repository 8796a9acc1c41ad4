use Rattle.std.proofs.Common.{rules}
use Rattle.tree_walk.proofs.found.Found.add_folder.Goals as goal

pub returns-clause-added : goal.returns-clause-added
returns-clause-added c = search rules
