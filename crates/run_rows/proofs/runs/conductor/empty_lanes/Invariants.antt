use Rattle.std.proofs.Common.{◌≡◌, [], replicate}
use Rattle.run_rows.proofs.runs.conductor.empty_lanes.Given as goal

abbrev pub invariant-loop : goal.invariant-loop
invariant-loop l = l.lanes.items ≡ replicate l.counter []
