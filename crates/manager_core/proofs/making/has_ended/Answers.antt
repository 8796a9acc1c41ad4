use Rattle.std.proofs.Common.{rules}
use Rattle.manager_core.proofs.making.has_ended.Goals as goal

pub returns : goal.returns
returns c = search rules
