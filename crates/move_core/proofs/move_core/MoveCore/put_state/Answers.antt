use Rattle.std.proofs.Common.{◌∙◌, ap}
use Rattle.task_core.specs.Machine.{SeenTask}
use Rattle.move_laws.proofs.Steps.{put_by_parts}
use Rattle.move_laws.specs.Kept.{sort_by}
use Rattle.move_core.proofs.move_core.MoveCore.put_state.Goals as goal

pub returns : goal.returns
returns c =
    put_by_parts c.args.task c.args.self.now c.args.state.value c.sort_of-ready.result c.settle-slot.result.slot
    c.settle-slot.result.ended c.is_some.result c.put_sort.new.self c.count_end.new.self c.put_slot.new.self
    c.put_outcome.new.self (c.sort_of-ready.ensures ∙ ap (λ (t : SeenTask). sort_by t) c.deref.ensures)
    c.settle-slot.ensures.slot c.settle-slot.ensures.ended c.is_some.ensures c.put_sort.ensures c.count_end.ensures
    c.put_slot.ensures c.put_outcome.ensures
