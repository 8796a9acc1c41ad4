use Rattle.std.proofs.Common.{◌∙◌, ◌&&◌, Bool, false, sym, ap, if◌then◌else◌}
use Rattle.task_acts.specs.declared.acts.Act.TheVariants as act
use Rattle.s3_model.specs.declared.requests.Op.TheVariants as op
use Rattle.task_acts.specs.Stages.{may_be_given}
use Rattle.task_stages.specs.declared.singles.Singles.{Singles}
use Rattle.task_stages.specs.Stages.{stage_by}
use Rattle.task_readiness.proofs.Whole as whole
use Rattle.task_acts.specs.Rule.{is_left_over}
use Rattle.task_readiness.proofs.singles.can_abort.Goals as goal

pub returns : goal.returns
returns c =
    let s = c.args.stages.now in
    let stopped = c.args.stopped in
    let long = c.work-work.ensures.pieces in
    c.may_tidy.ensures
    ∙ ap (λ (x : Singles). may_be_given x.abort && (if stopped then c.is_upload_left.result else false)) c.singles.ensures
    ∙ ap (λ (b : Bool). may_be_given s.singles.abort && (if stopped then b else false)) (c.is_upload_left.ensures stopped)
    ∙ ap (λ (b : Bool). may_be_given s.singles.abort && (if stopped then is_left_over s.work (stage_by s) stopped (act.Send op.Abort 0) else b)) (sym (whole.abort s stopped long))
