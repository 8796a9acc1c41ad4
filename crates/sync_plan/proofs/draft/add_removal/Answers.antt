use Rattle.std.proofs.Common.{rules}
use Rattle.sync_plan.proofs.draft.add_removal.Goals as goal

pub returns : goal.returns
returns c = search rules
