use Rattle.std.proofs.Common.{◌≡◌, ◌+◌, ◌≤◌, ◌++◌, List, map, sum_by, vec_len, vec_capacity}
use Rattle.std.specs.Vec.Iter.{into_iter_items, into_iter_len}
use Rattle.bounded_executor.specs.Exchange.{jobs_out}
use Rattle.bounded_executor.specs.Runs.{EachRuns}
use Rattle.bounded_executor.proofs.desk.Desk.finish.Given as goal

-- whatever the workers that are left come back as, all have then carried their lanes' jobs
abbrev pub invariant-loop-lane : goal.invariant-loop-lane
invariant-loop-lane g l =
    let left = into_iter_items l.lane-iterator in
    ((rest : List _) → EachRuns g.W.Worker.carries (map (λ l. l.worker) left) (map (λ l. l.exchange) left) rest → EachRuns g.W.Worker.carries l.fn.self.workers l.fn.self.lanes (l.workers.items ++ rest))
    × (sum_by (λ l. jobs_out l.exchange) left ≡ 0)
    × (vec_len l.workers + into_iter_len l.lane-iterator ≤ vec_capacity l.workers)
