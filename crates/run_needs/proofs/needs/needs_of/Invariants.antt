use Rattle.std.proofs.Common.{◌≤◌, ◌*◌, ◌^◌, take}
use Rattle.run_needs.specs.Needs.{AreNeedsOf}
use Rattle.run_needs.proofs.needs.needs_of.Given as goal

-- the needs of the tasks before this one
abbrev pub invariant-loop-task : goal.invariant-loop-task
invariant-loop-task l = record {
  so_far : AreNeedsOf l.config l.limits (take l.task-index l.tasks) l.needs;
  few : l.needs.entries ≤ 2 ^ 35 * l.task-index;
}
