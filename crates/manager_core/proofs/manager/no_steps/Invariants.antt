use Rattle.std.proofs.Common.{◌≡◌, None, replicate, vec_capacity, vec_len}
use Rattle.manager_core.proofs.manager.no_steps.Given as goal

abbrev pub invariant-loop : goal.invariant-loop
invariant-loop l = (l.steps.items ≡ replicate l.counter None) × (vec_len l.steps ≡ l.counter)
    × (vec_capacity l.steps ≡ l.fn.count)
