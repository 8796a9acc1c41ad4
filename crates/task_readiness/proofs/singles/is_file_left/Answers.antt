use Rattle.std.proofs.Common.{◌∙◌, ◌&&◌, Bool, sym, ap}
use Rattle.task_acts.specs.Rule.{is_idle}
use Rattle.task_stages.specs.Stages.{stage_by}
use Rattle.task_readiness.proofs.singles.is_file_left.Goals as goal

pub returns-then-has_file : goal.returns-then-has_file
returns-then-has_file c stopped =
    let s = c.args.stages.now in
    c.is_idle.ensures stopped ∙ ap (λ (b : Bool). b && is_idle s.work (stage_by s) stopped) (sym (sym c.has_file.ensures ∙ c.if-has_file.true))

pub returns-else-has_file : goal.returns-else-has_file
returns-else-has_file c stopped =
    let s = c.args.stages.now in
    c.if-has_file.false ∙ ap (λ (b : Bool). b && is_idle s.work (stage_by s) stopped) (sym (sym c.has_file.ensures ∙ c.if-has_file.false))
