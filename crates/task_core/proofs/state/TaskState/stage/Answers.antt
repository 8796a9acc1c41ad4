use Rattle.std.proofs.Common.{◌∙◌, ap, sym}
use Rattle.task_core.specs.Machine.{SeenTask}
use Rattle.task_stages.specs.Stages.{stage_by}
use Rattle.task_core.proofs.state.TaskState.stage.Goals as goal

pub returns-clause-by : goal.returns-clause-by
returns-clause-by c = c.stage.ensures ∙ ap (λ (t : SeenTask). stage_by t.stages c.args.act) c.self.view_is

pub returns-clause-stands : goal.returns-clause-stands
returns-clause-stands c w history s = c.stage.ensures ∙ ap (λ (t : SeenTask). stage_by t.stages c.args.act) c.self.view_is ∙ sym (s.stages c.args.act)
