use Rattle.std.proofs.Common.{◌∙◌, ◌&&◌, Bool, not, sym, ap}
use Rattle.std.specs.List.{list_all}
use Rattle.piece_stages.specs.Pieces.{is_busy}
use Rattle.task_stages.specs.Stages.{is_idle_single}
use Rattle.task_readiness.proofs.Whole.{idle}
use Rattle.task_readiness.proofs.decided.is_idle.Goals as goal

pub returns-then-is_idle : goal.returns-then-is_idle
returns-then-is_idle c stopped =
    let s = c.args.stages.now in
    let single = sym c.is_idle.ensures ∙ c.if-is_idle.true in
    c.are_pieces_idle.ensures
    ∙ sym (idle s stopped c.work-work.ensures.pieces
    ∙ ap (λ (b : Bool). b && list_all (λ p. not (is_busy p)) s.pieces) (ap is_idle_single (sym c.singles.ensures) ∙ single))

pub returns-else-is_idle : goal.returns-else-is_idle
returns-else-is_idle c stopped =
    let s = c.args.stages.now in
    let single = sym c.is_idle.ensures ∙ c.if-is_idle.false in
    c.if-is_idle.false ∙ sym (idle s stopped c.work-work.ensures.pieces
    ∙ ap (λ (b : Bool). b && list_all (λ p. not (is_busy p)) s.pieces) (ap is_idle_single (sym c.singles.ensures) ∙ single))
