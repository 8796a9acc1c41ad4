use Rattle.std.proofs.Common.{◌∙◌, refl}
use Rattle.task_core.proofs.Standing.{gave, gave_out, still_marked}
use Rattle.task_core.proofs.state.TaskState.gave.Goals as goal

pub returns-clause-stands : goal.returns-clause-stands
returns-clause-stands c w history s = gave w history c.args.self.now s c.args.act c.mark_given.new.self c.settle.new.self c.mark_given.ensures c.settle.ensures

pub returns-clause-out : goal.returns-clause-out
returns-clause-out c = gave_out c.args.self.now c.args.act c.mark_given.new.self c.settle.new.self c.mark_given.ensures c.settle.ensures

pub returns-clause-marked : goal.returns-clause-marked
returns-clause-marked c = still_marked c.args.act _ _ _ c.mark_given.new.self c.settle.new.self refl c.mark_given.ensures.marked c.settle.ensures

pub returns-clause-tags : goal.returns-clause-tags
returns-clause-tags c = c.settle.ensures.tags ∙ c.mark_given.ensures.tags
