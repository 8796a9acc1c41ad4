use Rattle.std.proofs.Common.{rules}
use Rattle.list_walk.proofs.pages.Pages.check_whole.Goals as goal

pub returns-then-total_with-gt-MOST_ENTRIES-clause-err : goal.returns-then-total_with-gt-MOST_ENTRIES-clause-err
returns-then-total_with-gt-MOST_ENTRIES-clause-err c = search rules

pub returns-clause-ok : goal.returns-clause-ok
returns-clause-ok c = search rules
