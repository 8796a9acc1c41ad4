use Rattle.result_lines.proofs.CutLemmas.{cut_is}
use Rattle.std.proofs.Common.{arith}
use Rattle.result_lines.proofs.causes.front_within.Goals as goal

pub returns : goal.returns
returns c = grind (arith, cut_is)
