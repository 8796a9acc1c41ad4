use Rattle.std.proofs.lemmas.Grind.{elements}
use Rattle.std.proofs.Common.{arith}
use Rattle.result_lines.proofs.faults.word_line.Goals as goal

pub returns-in-Twice : goal.returns-in-Twice
returns-in-Twice c = grind (arith, elements)
