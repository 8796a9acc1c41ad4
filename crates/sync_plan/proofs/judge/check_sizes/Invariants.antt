use Rattle.std.proofs.Common.{◌≡◌, drop}
use Rattle.sync_plan.specs.Fit.{size_fault}
use Rattle.sync_plan.proofs.judge.check_sizes.Given as goal

-- the tasks that are left have the fault of all
abbrev pub invariant-loop-task : goal.invariant-loop-task
invariant-loop-task l = size_fault l.most (drop l.task-index l.tasks) ≡ size_fault l.most l.tasks
