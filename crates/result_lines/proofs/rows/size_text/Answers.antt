use Rattle.result_lines.proofs.PaddingLemmas.{blanks}
use Rattle.std.proofs.Common.{arith}
use Rattle.result_lines.proofs.rows.size_text.Goals as goal

pub returns : goal.returns
returns c = grind (arith, blanks)
