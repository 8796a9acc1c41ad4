use Rattle.std.proofs.Common.{◌∙◌, ap}
use Rattle.task_core.specs.Machine.{SeenTask}
use Rattle.task_core.proofs.state.TaskState.failing.Goals as goal

pub returns-clause-by : goal.returns-clause-by
returns-clause-by c = c.is_failing.ensures ∙ ap (λ (t : SeenTask). t.causes.failing) c.self.view_is

pub returns-clause-stands : goal.returns-clause-stands
returns-clause-stands c w history s = c.is_failing.ensures ∙ ap (λ (t : SeenTask). t.causes.failing) c.self.view_is ∙ s.failing_is
