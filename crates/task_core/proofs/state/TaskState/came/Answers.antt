use Rattle.std.proofs.Common.{◌∙◌, refl}
use Rattle.task_acts.specs.Histories.{sent}
use Rattle.task_core.proofs.Acts.{out_has}
use Rattle.task_core.proofs.Standing.{came, came_tags, part, still_marked}
use Rattle.task_core.proofs.state.TaskState.came.Goals as goal

pub mark_came-part-requires-clause-act : goal.mark_came-part-requires-clause-act
mark_came-part-requires-clause-act c = out_has c.args.self.now.stages (sent c.args.carried) c.requires.out

pub returns-clause-part : goal.returns-clause-part
returns-clause-part c w history s = c.mark_came-part.ensures.part ∙ part w history c.args.self.now s c.args.carried

pub returns-clause-stands : goal.returns-clause-stands
returns-clause-stands c w history s = came w history c.args.self.now s c.args.carried c.mark_came-part.new.self c.settle.new.self c.mark_came-part.ensures.came c.settle.ensures

pub returns-clause-marked : goal.returns-clause-marked
returns-clause-marked c = still_marked (sent c.args.carried) _ _ _ c.mark_came-part.new.self c.settle.new.self refl c.mark_came-part.ensures.came.marked c.settle.ensures

pub returns-clause-tags : goal.returns-clause-tags
returns-clause-tags c = came_tags c.args.carried c.args.self.now c.mark_came-part.new.self c.settle.new.self c.mark_came-part.ensures.came c.settle.ensures
