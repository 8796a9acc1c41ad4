use Rattle.std.proofs.Common.{◌∙◌, ap}
use Rattle.task_core.specs.Machine.{SeenTask}
use Rattle.task_core.proofs.state.TaskState.outcome.Goals as goal

pub returns-clause-by : goal.returns-clause-by
returns-clause-by c = c.shown.ensures ∙ ap (λ (t : SeenTask). t.outcome) c.self.view_is

pub returns-clause-stands : goal.returns-clause-stands
returns-clause-stands c w history s = c.shown.ensures ∙ ap (λ (t : SeenTask). t.outcome) c.self.view_is ∙ s.outcome_is
