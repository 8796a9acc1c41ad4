use Rattle.std.proofs.Common.{rules}
use Rattle.s3_fakes.proofs.mem_table.cut.Goals as goal

pub returns-in-Cut : goal.returns-in-Cut
returns-in-Cut c = search rules
