use Rattle.std.proofs.Common.{◌<◌, length}
use Rattle.jobs.specs.Endings.{HaveNoSuccess}
use Rattle.row_words.proofs.endings.earlier.Given as goal

abbrev pub invariant-loop-word : goal.invariant-loop-word
invariant-loop-word l = HaveNoSuccess l.tries × (length l.tries < 10)
