use Rattle.std.proofs.Common.{◌≤◌, length}
use Rattle.run_scripts.specs.Tasks.{AreTasks}
use Rattle.run_scripts.proofs.tasks.push_each.Given as goal

abbrev pub invariant-loop : goal.invariant-loop
invariant-loop l = record {
  tasks : AreTasks 256 l.tasks.items;
  few : length l.tasks.items ≤ 1000000;
}
