use Rattle.std.proofs.Common.{◌∙◌, ◌&&◌, Bool, false, sym, ap, if◌then◌else◌}
use Rattle.task_acts.specs.Stages.{may_be_given}
use Rattle.task_stages.specs.declared.singles.Singles.{Singles}
use Rattle.task_stages.specs.Stages.{stage_by}
use Rattle.task_acts.specs.declared.work.Work.{Work}
use Rattle.task_acts.specs.Rule.{is_decided}
use Rattle.task_readiness.specs.Readiness.{may_remove_by}
use Rattle.task_readiness.proofs.Whole as whole
use Rattle.task_readiness.proofs.singles.can_remove.Goals as goal

pub returns : goal.returns
returns c =
    let s = c.args.stages.now in
    let stopped = c.args.stopped in
    let long = c.work-work.ensures.pieces in
    c.may_begin.ensures
    ∙ ap (λ (x : Singles). may_be_given x.remove && (if stopped then false else c.may_remove-is_due.result)) c.singles.ensures
    ∙ ap (λ (b : Bool). may_be_given s.singles.remove && (if stopped then false else b)) (c.may_remove-is_due.ensures ∙ ap (λ (b : Bool). may_remove_by c.work-work.result.of_kind c.work-work.result.moves b) (c.is_decided.ensures stopped)
    ∙ ap (λ (w : Work). may_remove_by w.of_kind w.moves (is_decided s.work (stage_by s) stopped)) c.work-work.ensures.work ∙ sym (whole.remove s stopped long))
