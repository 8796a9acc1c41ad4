use Rattle.std.proofs.Common.{◌∙◌, refl}
use Rattle.task_core.proofs.Acts.{out_has}
use Rattle.task_core.proofs.Standing.{returned, still_marked}
use Rattle.task_core.proofs.state.TaskState.file_came.Goals as goal

pub mark_returned-requires : goal.mark_returned-requires
mark_returned-requires c = out_has c.args.self.now.stages c.args.act c.requires

pub returns-clause-stands : goal.returns-clause-stands
returns-clause-stands c w history s = returned w history c.args.self.now s c.args.act c.args.came c.mark_returned.new.self c.settle.new.self c.mark_returned.ensures c.settle.ensures

pub returns-clause-marked : goal.returns-clause-marked
returns-clause-marked c = still_marked c.args.act _ _ _ c.mark_returned.new.self c.settle.new.self refl c.mark_returned.ensures.marked c.settle.ensures

pub returns-clause-tags : goal.returns-clause-tags
returns-clause-tags c = c.settle.ensures.tags ∙ c.mark_returned.ensures.tags
