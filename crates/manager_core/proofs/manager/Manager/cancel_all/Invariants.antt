use Rattle.std.proofs.Common.{◌≡◌, ◌≤◌, ◌<◌, ℕ, None, get_or, length}
use Rattle.run_steps.specs.Steps.{settled_step}
use Rattle.manager_core.proofs.manager.Manager.cancel_all.Given as goal

-- the tasks before this one have let their jobs go where they have ended, and the others are as they were
abbrev pub invariant-loop-task : goal.invariant-loop-task
invariant-loop-task l = record {
  same : l.self ≡ record l.initial.self { steps = l.self.steps };
  count : length l.self.steps ≡ length l.initial.self.steps;
  settled : (n : ℕ) → n < l.task → get_or l.self.steps n None
      ≡ settled_step l.initial.self.moves.outcomes n (get_or l.initial.self.steps n None);
  others : (n : ℕ) → l.task ≤ n → get_or l.self.steps n None ≡ get_or l.initial.self.steps n None;
}
