use Rattle.std.proofs.Common.{rules}
use Rattle.list_walk.proofs.pages.Pages.feed.Goals as goal

pub returns-in-Err-clause-over : goal.returns-in-Err-clause-over
returns-in-Err-clause-over c = search rules
