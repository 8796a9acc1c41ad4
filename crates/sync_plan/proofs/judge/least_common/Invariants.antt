use Rattle.std.proofs.Common.{◌+◌, length}
use Rattle.sync_plan.proofs.CommonLemmas.{AreLeft}
use Rattle.sync_plan.proofs.judge.least_common.Given as goal

abbrev pub invariant-loop-reader : goal.invariant-loop-reader
invariant-loop-reader l = AreLeft l.tasks l.readers l.writers

abbrev pub decreases-loop-reader : goal.decreases-loop-reader
decreases-loop-reader l = length l.readers + length l.writers
