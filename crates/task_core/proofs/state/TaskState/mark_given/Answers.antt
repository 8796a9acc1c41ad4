use Rattle.std.proofs.Common.{◌≡◌, ◌∙◌, Some, refl, sym, ap, subst, if◌then◌else◌}
use Rattle.task_acts.specs.Histories.{is_act}
use Rattle.task_acts.specs.Stages.{given_stage}
use Rattle.task_acts.specs.declared.acts.Stage.{Stage}
use Rattle.task_stages.specs.Stages.{stage_by}
use Rattle.task_core.specs.Machine.{SeenTask}
use Rattle.task_core.specs.Steps.{IsGiven}
use Rattle.task_core.proofs.Acts.{over, ready_has, sound_after}
use Rattle.task_core.specs.Machine.{ready_by}
use Rattle.task_ends.specs.Causes.{is_stopped_by}
use Rattle.task_core.proofs.state.TaskState.mark_given.Goals as goal

pub invariant_of-self : goal.invariant_of-self
invariant_of-self c = sound_after c.self.inside.stages c.set.new.self c.self.inside.kept c.unkeep.new.kept c.self.inside.tags c.self.inside.tags c.self.invariant
    c.set.ensures.work c.set.ensures.pieces c.unkeep.ensures.work c.self.invariant.tags_are

pub returns : goal.returns
returns c = over (IsGiven c.args.act) _ _ _ c.self.view_is (record {
  marked = record {
    work = c.set.ensures.work;
    stages = λ other. c.set.ensures.stages other
        ∙ ap (λ (how : Stage). if is_act other c.args.act then how else stage_by c.self.inside.stages other) (c.given_stage.ensures ∙ ap given_stage c.stage-before.ensures);
  };
  causes = refl;
  outcome = refl;
  kept = c.unkeep.ensures.jobs;
  tags = refl;
  upload = refl;
})

pub set-requires : goal.set-requires
set-requires c =
    let s = c.self.inside.stages in
    ready_has s (is_stopped_by c.self.inside.causes) c.args.act c.work-work.ensures.pieces (subst (λ (t : SeenTask). ready_by t ≡ Some c.args.act) (sym c.self.view_is) c.requires)
