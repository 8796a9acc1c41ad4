use Rattle.std.proofs.Common.{◌∙◌, ◌||◌, Bool, Option, is_some, not, sym, ap}
use Rattle.task_acts.specs.declared.acts.Act.{Act}
use Rattle.task_acts.specs.Rule.{first_ready, is_idle}
use Rattle.task_ends.specs.Causes.{is_stopped_by}
use Rattle.task_stages.specs.Stages.{stage_by}
use Rattle.task_core.proofs.state.goes_on.Goals as goal

pub returns-then-is_some : goal.returns-then-is_some
returns-then-is_some c =
    let s = c.args.stages.now in
    let stopped = is_stopped_by c.args.causes.now in
    let ready = c.first_ready.ensures ∙ ap (λ (b : Bool). first_ready s.work (stage_by s) b) c.is_stopped.ensures in
    c.if-is_some.true
    ∙ sym (ap (λ (b : Bool). b || not (is_idle s.work (stage_by s) stopped)) (sym (ap (λ (o : Option Act). is_some o) ready) ∙ sym c.is_some.ensures ∙ c.if-is_some.true))

pub returns-else-is_some : goal.returns-else-is_some
returns-else-is_some c =
    let s = c.args.stages.now in
    let stopped = is_stopped_by c.args.causes.now in
    let ready = c.first_ready.ensures ∙ ap (λ (b : Bool). first_ready s.work (stage_by s) b) c.is_stopped.ensures in
    ap not (c.is_idle.ensures stopped)
    ∙ sym (ap (λ (b : Bool). b || not (is_idle s.work (stage_by s) stopped)) (sym (ap (λ (o : Option Act). is_some o) ready) ∙ sym c.is_some.ensures ∙ c.if-is_some.false))
