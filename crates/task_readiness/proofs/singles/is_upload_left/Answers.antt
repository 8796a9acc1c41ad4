use Rattle.std.proofs.Common.{◌∙◌, ◌&&◌, Bool, sym, ap}
use Rattle.task_acts.specs.Rule.{is_idle}
use Rattle.task_stages.specs.Stages.{stage_by}
use Rattle.task_readiness.proofs.singles.is_upload_left.Goals as goal

pub returns-then-has_upload : goal.returns-then-has_upload
returns-then-has_upload c stopped =
    let s = c.args.stages.now in
    c.is_idle.ensures stopped ∙ ap (λ (b : Bool). b && is_idle s.work (stage_by s) stopped) (sym (sym c.has_upload.ensures ∙ c.if-has_upload.true))

pub returns-else-has_upload : goal.returns-else-has_upload
returns-else-has_upload c stopped =
    let s = c.args.stages.now in
    c.if-has_upload.false ∙ ap (λ (b : Bool). b && is_idle s.work (stage_by s) stopped) (sym (sym c.has_upload.ensures ∙ c.if-has_upload.false))
