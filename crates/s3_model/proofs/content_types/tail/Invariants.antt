use Rattle.std.proofs.Common.{◌≡◌, ◌<◌, ◌≤◌, ◌==◌, ℕ, false, length, get_or}
use Rattle.s3_model.proofs.content_types.tail.Given as goal

-- the bytes from `start` on are others
abbrev pub invariant-loop-start : goal.invariant-loop-start
invariant-loop-start l = record {
  inside : l.start ≤ length l.bytes;
  others : (k : ℕ) → l.start ≤ k → k < length l.bytes → (get_or l.bytes k 0 == l.stop) ≡ false;
}

abbrev pub decreases-loop-start : goal.decreases-loop-start
decreases-loop-start l = l.start
