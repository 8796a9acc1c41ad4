use Rattle.std.proofs.Common.{◌≡◌, ◌∙◌, Option, ap, subst}
use Rattle.task_core.specs.Machine.{SeenTask, ready_by}
use Rattle.move_laws.specs.Kept.{act_in}
use Rattle.task_slots.proofs.slot.TaskSlot.ready.Goals as goal

pub returns-in-Some : goal.returns-in-Some
returns-in-Some c =
    subst (λ (t : Option SeenTask). c.ready.result ≡ act_in t) c.self.view_is
    (rw c.in-Some.is (c.ready.ensures.by ∙ ap (λ (t : SeenTask). ready_by t) c.deref.ensures))
