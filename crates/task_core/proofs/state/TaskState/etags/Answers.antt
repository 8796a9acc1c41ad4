use Rattle.std.proofs.Common.{◌∙◌, IsSome, ap, subst, sym}
use Rattle.kept_jobs.specs.Tags.{present}
use Rattle.task_core.specs.Machine.{SeenTask, Stands}
use Rattle.task_core.proofs.Standing.{tags_given, untagged}
use Rattle.task_core.proofs.state.TaskState.etags.Goals as goal

pub returns-clause-tags : goal.returns-clause-tags
returns-clause-tags c w history s =
    let seen = subst (λ (t : SeenTask). Stands w history t) (sym c.self.view_is) s in
    let there = subst (λ (t : SeenTask). IsSome t.tags) (sym c.self.view_is) c.requires in
    c.take_tags.ensures.items ∙ ap present (tags_given w history _ seen c.self.invariant c.work-work.ensures.pieces there)

pub returns-clause-stands : goal.returns-clause-stands
returns-clause-stands c w history s =
    untagged w history _ (subst (λ (t : SeenTask). Stands w history t) (sym c.self.view_is) s) c.take_tags.new.tags c.take_tags.ensures.none
