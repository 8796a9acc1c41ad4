use Rattle.std.proofs.Common.{◌≡◌, take}
use Rattle.dry_runs.specs.Shown.{all_dry}
use Rattle.service_dry_runs.proofs.shown.dry_outcomes.Given as goal

-- one for each task so far
abbrev pub invariant-loop-task : goal.invariant-loop-task
invariant-loop-task l = l.outcomes.items ≡ all_dry (take l._task-index l.tasks)
