use Rattle.std.proofs.Common.{rules}
use Rattle.result_lines.proofs.tasks.goes_to_err.Goals as goal

pub returns : goal.returns
returns c = search rules
