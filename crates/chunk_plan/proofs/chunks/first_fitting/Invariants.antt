use Rattle.std.proofs.Common.{◌≡◌, ◌^◌, ◌<◌, ◌≤◌, ℕ, ◌-◌, ◌*◌}
use Rattle.s3_model.specs.Parts.{piece_count}
use Rattle.chunk_plan.proofs.chunks.first_fitting.Given as goal

-- so many doublings were too few
abbrev pub invariant-loop-found : goal.invariant-loop-found
invariant-loop-found l = (k : ℕ) × (l.found ≡ l.chunk * 2 ^ k) × (1 ≤ l.found) × ((j : ℕ) → j < k → l.most < piece_count l.size (l.chunk * 2 ^ j))

abbrev pub decreases-loop-found : goal.decreases-loop-found
decreases-loop-found l = l.size - l.found
