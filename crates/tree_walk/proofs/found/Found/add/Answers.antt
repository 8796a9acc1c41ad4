use Rattle.std.proofs.Common.{rules}
use Rattle.tree_walk.proofs.found.Found.add.Goals as goal

pub returns-in-Folder-clause-added : goal.returns-in-Folder-clause-added
returns-in-Folder-clause-added c = search rules

pub returns-in-Folder-clause-over : goal.returns-in-Folder-clause-over
returns-in-Folder-clause-over c = search rules
