use Rattle.reply_values.proofs.TimeLemmas.{ReadsTo}
use Rattle.reply_values.proofs.times.digits.Given as goal

abbrev pub invariant-loop-byte : goal.invariant-loop-byte
invariant-loop-byte l = ReadsTo l.text l.byte-index l.number
