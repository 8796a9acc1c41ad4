use Rattle.std.proofs.Common.{refl}
use Rattle.task_core.specs.Steps.{IsCancelled}
use Rattle.task_core.proofs.Acts.{over}
use Rattle.task_core.proofs.state.TaskState.mark_cancelled.Goals as goal

pub returns : goal.returns
returns c =
    let e = c.cancel.ensures in
    over (IsCancelled c.args.reason) _ _ _ c.self.view_is (record {
      stages = refl;
      failing = e.failing;
      first = e.first;
      last = e.last;
      reason = e.reason;
      memory = e.memory;
      uncertain = e.uncertain;
      outcome = refl;
      kept = refl;
      tags = refl;
      upload = refl;
    })
