use Rattle.std.proofs.Common.{◌∙◌, ◌&&◌, ◌||◌, Bool, not, sym, ap}
use Rattle.task_acts.specs.Ends.{removal}
use Rattle.task_acts.specs.Stages.{has_done}
use Rattle.task_stages.specs.Stages.{stage_by}
use Rattle.task_readiness.proofs.decided.is_whole.Goals as goal

pub returns-then-is_decided : goal.returns-then-is_decided
returns-then-is_decided c stopped =
    let s = c.args.stages.now in
    c.is_source_gone.ensures
    ∙ ap (λ (b : Bool). b && (not s.work.moves || has_done (stage_by s (removal s.work.of_kind)))) (sym (sym (c.is_decided.ensures stopped) ∙ c.if-is_decided.true))

pub returns-else-is_decided : goal.returns-else-is_decided
returns-else-is_decided c stopped =
    let s = c.args.stages.now in
    c.if-is_decided.false
    ∙ ap (λ (b : Bool). b && (not s.work.moves || has_done (stage_by s (removal s.work.of_kind)))) (sym (sym (c.is_decided.ensures stopped) ∙ c.if-is_decided.false))
