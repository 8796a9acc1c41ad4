use Rattle.std.proofs.Common.{◌≡◌, ◌≤◌, replicate, vec_capacity, vec_len}
use Rattle.bounded_executor.proofs.parts.all_parts.Given as goal

abbrev pub invariant-loop-made : goal.invariant-loop-made
invariant-loop-made g l = (l.parts.items ≡ replicate l._made l.depth) × (vec_len l.parts ≡ l._made)
    × (l.fn.count ≤ vec_capacity l.parts)
