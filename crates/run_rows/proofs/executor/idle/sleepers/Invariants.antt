use Rattle.std.proofs.Common.{◌≡◌, vec_len}
use Rattle.run_rows.proofs.executor.idle.sleepers.Given as goal

abbrev pub invariant-loop-made : goal.invariant-loop-made
invariant-loop-made l = vec_len l.workers ≡ l._made
