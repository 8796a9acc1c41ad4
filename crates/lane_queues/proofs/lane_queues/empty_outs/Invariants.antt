use Rattle.std.proofs.Common.{◌≡◌, ◌≤◌, ◌<◌, ◌-◌, ◌^◌, ℕ, get_or, length}
use Rattle.lane_queues.proofs.lane_queues.empty_outs.Given as goal

abbrev pub invariant-loop-lane : goal.invariant-loop-lane
invariant-loop-lane l = record {
  wide : l.lanes ≤ length l.outs;
  none : (k : ℕ) → k < l.lane → get_or l.outs k 0 ≡ 0;
  behind : (k : ℕ) → l.lanes ≤ k → k < length l.outs → get_or l.outs k 0 ≡ 2 ^ 32 - 1;
}
