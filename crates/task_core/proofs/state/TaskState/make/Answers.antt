use Rattle.std.proofs.Common.{◌∙◌, None, ap, is_some, refl}
use Rattle.task_core.proofs.Acts.{start_sound}
use Rattle.task_core.proofs.Standing.{starts}
use Rattle.task_ends.specs.Causes.{no_causes}
use Rattle.task_core.proofs.state.TaskState.make.Goals as goal

pub of-requires : goal.of-requires
of-requires c = start_sound c.args.work c.in_ok-stages.stages c.in_ok-kept.kept c.in_ok-tags.tags c.in_ok-stages.ensures.work c.in_ok-stages.ensures.pieces c.in_ok-kept.ensures.work
    c.in_ok-tags.ensures.tags c.requires.numbers c.requires.attempts

pub returns-clause-stands : goal.returns-clause-stands
returns-clause-stands c = starts c.args.work (record {
  stages = c.in_ok-stages.stages;
  causes = no_causes;
  outcome = None;
  kept = c.in_ok-kept.kept;
  tags = c.in_ok-tags.tags;
  upload = None;
}) c.of.result c.in_ok-stages.ensures.work (λ a. c.in_ok-stages.ensures.waiting a) refl refl (λ o n. c.in_ok-kept.ensures.none o n) refl c.in_ok-tags.ensures.tags c.of.ensures

pub returns-clause-tags : goal.returns-clause-tags
returns-clause-tags c = ap is_some c.of.ensures.tags ∙ c.in_ok-tags.ensures.some
