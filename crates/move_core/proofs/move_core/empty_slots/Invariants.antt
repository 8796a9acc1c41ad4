use Rattle.std.proofs.Common.{◌≡◌, None, replicate, vec_capacity, vec_len}
use Rattle.move_core.proofs.move_core.empty_slots.Given as goal

abbrev pub invariant-loop : goal.invariant-loop
invariant-loop l = (l.slots.items ≡ replicate l.counter None) × (vec_len l.slots ≡ l.counter)
    × (vec_capacity l.slots ≡ l.fn.count)
