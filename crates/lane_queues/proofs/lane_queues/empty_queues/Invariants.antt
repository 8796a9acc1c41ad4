use Rattle.std.proofs.Common.{◌≡◌, [], replicate}
use Rattle.lane_queues.proofs.lane_queues.empty_queues.Given as goal

abbrev pub invariant-loop : goal.invariant-loop
invariant-loop l = l.queues.items ≡ replicate l.counter (record { row = []; room = l.room })
