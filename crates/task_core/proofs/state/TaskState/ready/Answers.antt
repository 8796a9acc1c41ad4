use Rattle.std.proofs.Common.{◌∙◌, ap}
use Rattle.task_core.specs.Machine.{SeenTask, ready_by}
use Rattle.task_core.proofs.Standing.{ready}
use Rattle.task_core.proofs.state.TaskState.ready.Goals as goal

pub returns-clause-by : goal.returns-clause-by
returns-clause-by c = c.next_act.ensures ∙ ap (λ (t : SeenTask). ready_by t) c.self.view_is

pub returns-clause-stands : goal.returns-clause-stands
returns-clause-stands c w history s = c.next_act.ensures ∙ ap (λ (t : SeenTask). ready_by t) c.self.view_is ∙ ready w history c.args.self.now s
