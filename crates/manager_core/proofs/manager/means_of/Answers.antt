use Rattle.std.proofs.Common.{rules}
use Rattle.manager_core.proofs.manager.means_of.Goals as goal

pub returns : goal.returns
returns c = search rules
