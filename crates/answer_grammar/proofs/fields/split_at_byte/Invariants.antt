use Rattle.std.proofs.Common.{take}
use Rattle.answer_grammar.specs.Parts.{Lacks}
use Rattle.answer_grammar.proofs.fields.split_at_byte.Given as goal

abbrev pub invariant-loop-i : goal.invariant-loop-i
invariant-loop-i l = Lacks l.byte (take l.i l.text)
