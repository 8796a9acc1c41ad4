use Rattle.std.proofs.Common.{◌∙◌, ◌&&◌, Bool, false, sym, ap, if◌then◌else◌}
use Rattle.task_acts.specs.Stages.{may_be_given}
use Rattle.task_stages.specs.declared.singles.Singles.{Singles}
use Rattle.task_readiness.proofs.Whole as whole
use Rattle.task_readiness.proofs.singles.can_complete.Goals as goal

pub returns : goal.returns
returns c =
    let s = c.args.stages.now in
    let stopped = c.args.stopped in
    let long = c.work-work.ensures.pieces in
    c.may_begin.ensures
    ∙ ap (λ (x : Singles). may_be_given x.complete && (if stopped then false else c.is_whole_upload.result)) c.singles.ensures
    ∙ ap (λ (b : Bool). may_be_given s.singles.complete && (if stopped then false else b)) (c.is_whole_upload.ensures ∙ sym (whole.complete s stopped long))
