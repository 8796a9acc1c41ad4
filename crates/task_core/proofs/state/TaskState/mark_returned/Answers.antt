use Rattle.std.proofs.Common.{◌∙◌, ◌||◌, Option, is_some, refl, ap, if◌then◌else◌}
use Rattle.task_acts.specs.Histories.{is_act}
use Rattle.task_acts.specs.declared.acts.Stage.{Stage}
use Rattle.s3_model.specs.declared.outcomes.Cause.{Cause}
use Rattle.task_acts.specs.Failures.{is_memory}
use Rattle.task_stages.specs.Stages.{stage_by}
use Rattle.task_core.specs.Steps.{IsReturned}
use Rattle.task_core.proofs.Acts.{over, sound_after}
use Rattle.task_core.proofs.state.TaskState.mark_returned.Goals as goal

pub invariant_of-self : goal.invariant_of-self
invariant_of-self c = sound_after c.self.inside.stages c.set.new.self c.self.inside.kept c.self.inside.kept c.self.inside.tags c.self.inside.tags c.self.invariant
    c.set.ensures.work c.set.ensures.pieces refl c.self.invariant.tags_are

pub returns : goal.returns
returns c =
    let k = c.self.inside.causes in
    let e = c.file_came.ensures in
    over (IsReturned c.args.act c.args.came) _ _ _ c.self.view_is (record {
      marked = record {
        work = c.set.ensures.work;
        stages = λ other. c.set.ensures.stages other
            ∙ ap (λ (how : Stage). if is_act other c.args.act then how else stage_by c.self.inside.stages other) c.file_stage.ensures;
      };
      failing = e.failing ∙ ap (λ (o : Option Cause). k.failing || is_some o) c.file_cause.ensures;
      first = e.first ∙ ap (λ (o : Option Cause). if k.failing then k.first else o) c.file_cause.ensures;
      last = e.last;
      reason = e.reason;
      memory = e.memory ∙ ap (λ (o : Option Cause). k.memory || is_memory o) c.file_cause.ensures;
      uncertain = e.uncertain;
      outcome = refl;
      kept = refl;
      tags = refl;
      upload = refl;
    })
