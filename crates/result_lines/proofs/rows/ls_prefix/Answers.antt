use Rattle.std.proofs.Common.{rules}
use Rattle.result_lines.proofs.rows.ls_prefix.Goals as goal

pub returns : goal.returns
returns c = search rules
