use Rattle.std.proofs.Common.{◌∙◌, ap}
use Rattle.task_core.specs.Machine.{SeenTask}
use Rattle.task_core.proofs.state.TaskState.work.Goals as goal

pub returns-clause-by : goal.returns-clause-by
returns-clause-by c = c.work.ensures.work ∙ ap (λ (t : SeenTask). t.stages.work) c.self.view_is

pub returns-clause-stands : goal.returns-clause-stands
returns-clause-stands c w history s =
    c.work.ensures.work ∙ ap (λ (t : SeenTask). t.stages.work) c.self.view_is ∙ s.work_is
