use Rattle.std.proofs.Common.{option_copied}
use Rattle.object_table.specs.Pages.{IsBehind}
use Rattle.object_table.proofs.Pages.{Reaches}
use Rattle.object_table.proofs.listings.page_after.Given as goal

-- all names so far come after the text, and the place is at it or after it
abbrev pub invariant-loop-key : goal.invariant-loop-key
invariant-loop-key l = IsBehind (option_copied l.after) l.page × Reaches (option_copied l.after) (option_copied l.last)
