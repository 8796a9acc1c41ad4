use Rattle.std.proofs.Common.{◌≤◌, length}
use Rattle.run_scripts.specs.Tasks.{AreTasks}
use Rattle.run_scripts.proofs.tasks.read_tasks.Given as goal

abbrev pub invariant-loop-word : goal.invariant-loop-word
invariant-loop-word l = record {
  tasks : AreTasks 256 l.tasks.items;
  few : length l.tasks.items ≤ 1000000;
}
