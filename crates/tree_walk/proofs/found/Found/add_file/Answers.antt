use Rattle.std.proofs.Common.{rules}
use Rattle.tree_walk.proofs.found.Found.add_file.Goals as goal

pub returns-then-count-gt-MOST_FILES-clause-over : goal.returns-then-count-gt-MOST_FILES-clause-over
returns-then-count-gt-MOST_FILES-clause-over c = search rules
