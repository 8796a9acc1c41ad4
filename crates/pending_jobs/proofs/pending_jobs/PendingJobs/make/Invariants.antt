use Rattle.std.proofs.Common.{◌≡◌, [], replicate}
use Rattle.pending_jobs.specs.Rows.{IsSound, jobs_of}
use Rattle.pending_jobs.proofs.pending_jobs.PendingJobs.make.Given as goal

abbrev pub invariant-loop : goal.invariant-loop
invariant-loop l = (jobs_of l.rows.items ≡ replicate l.counter []) × IsSound l.depth-2 l.rows.items
