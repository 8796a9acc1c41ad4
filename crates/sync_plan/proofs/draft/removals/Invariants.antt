use Rattle.std.proofs.Common.{◌≡◌, ◌++◌, drop}
use Rattle.sync_plan.specs.Plans.{planned_removals}
use Rattle.sync_plan.proofs.draft.removals.Given as goal

-- what is there and what is left come to all of them
abbrev pub invariant-loop-entry : goal.invariant-loop-entry
invariant-loop-entry l =
    l.tasks.items ++ planned_removals l.errand (drop l.entry-index l.entries) ≡ planned_removals l.errand l.entries
