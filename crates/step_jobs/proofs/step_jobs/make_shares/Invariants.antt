use Rattle.std.proofs.Common.{◌≡◌, Some, replicate, vec_capacity, vec_len}
use Rattle.std.specs.Arc.{arc_value}
use Rattle.step_jobs.specs.Shares.{share_of}
use Rattle.step_jobs.proofs.step_jobs.make_shares.Given as goal

abbrev pub invariant-loop : goal.invariant-loop
invariant-loop l = (l.shares.items ≡ replicate l.counter (Some (share_of (arc_value l.task) l.fn.cell))) × (l.cell ≡ l.fn.cell)
    × (vec_len l.shares ≡ l.counter) × (vec_capacity l.shares ≡ l.fn.count)
