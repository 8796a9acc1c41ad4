use Rattle.std.proofs.Common.{rules}
use Rattle.result_lines.proofs.faults.listing_line.Goals as goal

pub returns-in-Order : goal.returns-in-Order
returns-in-Order c = search rules
