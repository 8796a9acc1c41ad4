use Rattle.std.proofs.Common.{◌≤◌, ℕ, max}
use Rattle.std.specs.List.{AllWithin}
use Rattle.chunk_plan.specs.Pool.{HaveAtMost, HaveRoom}
use Rattle.chunk_plan.proofs.pool.enlarge_all.Given as goal

abbrev pub invariant-loop-part : goal.invariant-loop-part
invariant-loop-part l = record {
  kept : (room : ℕ) → HaveRoom room l.initial.parts → HaveRoom room l.parts;
  most : (most : ℕ) → HaveAtMost most l.initial.parts → HaveAtMost (max most l.bytes) l.parts;
  enlarged : AllWithin (λ part. l.bytes ≤ part.bytes.room) l.parts 0 l.part-index;
}
