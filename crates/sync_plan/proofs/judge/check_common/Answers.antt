use Rattle.std.proofs.Common.{refl}
use Rattle.sync_plan.proofs.judge.check_common.Goals as goal

pub returns-in-None-clause-ok : goal.returns-in-None-clause-ok
returns-in-None-clause-ok c = c.in-None.ensures.none refl
