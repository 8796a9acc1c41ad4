use Rattle.std.proofs.Common.{◌∙◌, Bool, ap}
use Rattle.task_acts.specs.Rule.{first_ready}
use Rattle.task_stages.specs.Stages.{stage_by}
use Rattle.task_core.proofs.state.next_act.Goals as goal

pub returns : goal.returns
returns c = c.first_ready.ensures ∙ ap (λ (b : Bool). first_ready c.args.stages.now.work (stage_by c.args.stages.now) b) c.is_stopped.ensures
