use Rattle.std.proofs.Common.{◌∙◌, ◌&&◌, Bool, false, sym, ap, if◌then◌else◌}
use Rattle.task_acts.specs.Stages.{may_be_given}
use Rattle.task_stages.specs.declared.singles.Singles.{Singles}
use Rattle.task_stages.specs.Stages.{stage_by}
use Rattle.task_acts.specs.declared.work.Work.{Work}
use Rattle.task_acts.specs.Rule.{is_decided}
use Rattle.task_acts.specs.Stages.{has_ended}
use Rattle.task_readiness.specs.Readiness.{may_delete_by}
use Rattle.task_readiness.proofs.Whole as whole
use Rattle.task_readiness.proofs.singles.can_delete.Goals as goal

pub returns : goal.returns
returns c =
    let s = c.args.stages.now in
    let stopped = c.args.stopped in
    let long = c.work-work.ensures.pieces in
    c.may_begin.ensures
    ∙ ap (λ (x : Singles). may_be_given x.delete && (if stopped then false else c.may_delete-is_due.result)) c.singles-singles.ensures
    ∙ ap (λ (b : Bool). may_be_given s.singles.delete && (if stopped then false else b)) (c.may_delete-is_due.ensures ∙ ap (λ (b : Bool). may_delete_by c.work-work.result.of_kind c.work-work.result.moves b c.has_ended.result) (c.is_decided.ensures stopped)
    ∙ ap (λ (w : Work). may_delete_by w.of_kind w.moves (is_decided s.work (stage_by s) stopped) c.has_ended.result) c.work-work.ensures.work
    ∙ ap (λ (b : Bool). may_delete_by s.work.of_kind s.work.moves (is_decided s.work (stage_by s) stopped) b) (c.has_ended.ensures ∙ ap (λ (x : Singles). has_ended x.stamp) c.singles-singles.ensures)
    ∙ sym (whole.delete s stopped long))
