use Rattle.std.proofs.Common.{◌∙◌}
use Rattle.task_core.proofs.Standing.{cancelled}
use Rattle.task_core.proofs.state.TaskState.cancel.Goals as goal

pub returns-clause-stands : goal.returns-clause-stands
returns-clause-stands c w history s = cancelled w history c.args.self.now s c.args.reason c.mark_cancelled.new.self c.settle.new.self c.mark_cancelled.ensures c.settle.ensures

pub returns-clause-stages : goal.returns-clause-stages
returns-clause-stages c = c.settle.ensures.stages ∙ c.mark_cancelled.ensures.stages

pub returns-clause-tags : goal.returns-clause-tags
returns-clause-tags c = c.settle.ensures.tags ∙ c.mark_cancelled.ensures.tags

pub returns-clause-kept : goal.returns-clause-kept
returns-clause-kept c = c.settle.ensures.kept ∙ c.mark_cancelled.ensures.kept
