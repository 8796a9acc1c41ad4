use Rattle.std.proofs.Common.{◌≡◌, ◌++◌, ◌+◌, length}
use Rattle.merged_names.specs.Merging.{Ascend}
use Rattle.sync_plan.specs.Errands.{names_of}
use Rattle.sync_plan.specs.Plans.{planned, skipped}
use Rattle.sync_plan.proofs.draft.draft.Given as goal

-- what is there and what is left come to what was to come
abbrev pub invariant-loop-turn : goal.invariant-loop-turn
invariant-loop-turn l = record {
  tasks : l.plan.tasks.items ++ planned l.route.errand.now l.route.to.now l.route.many l.ours l.theirs
      ≡ planned l.route.errand.now l.route.to.now l.route.many l.source l.dest;
  warnings : l.plan.warnings.items ++ skipped l.route.errand.now l.route.to.now l.route.many l.ours
      ≡ skipped l.route.errand.now l.route.to.now l.route.many l.source;
  ours : Ascend (names_of l.route.errand.now.from l.route.many l.ours);
  theirs : Ascend (names_of l.route.to.now l.route.many l.theirs);
}

abbrev pub decreases-loop-turn : goal.decreases-loop-turn
decreases-loop-turn l = length l.ours + length l.theirs
