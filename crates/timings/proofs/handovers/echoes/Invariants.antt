use Rattle.std.proofs.Common.{◌≡◌, vec_len}
use Rattle.timings.proofs.handovers.echoes.Given as goal

abbrev pub invariant-loop-made : goal.invariant-loop-made
invariant-loop-made l = vec_len l.workers ≡ l._made
