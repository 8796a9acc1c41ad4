use Rattle.std.proofs.Common.{rules}
use Rattle.run_needs.proofs.needs.part_bytes.Goals as goal

pub returns-in-Upload : goal.returns-in-Upload
returns-in-Upload c = search rules
