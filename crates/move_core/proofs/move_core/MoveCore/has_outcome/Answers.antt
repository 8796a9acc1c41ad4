use Rattle.std.proofs.Common.{◌∙◌, None, Option, ap, arith, is_some}
use Rattle.std.proofs.lemmas.List.{get_or_default}
use Rattle.s3_model.specs.declared.outcomes.Outcome.{Outcome}
use Rattle.move_laws.specs.Kept.{SeenMoves, has_outcome}
use Rattle.move_core.proofs.move_core.MoveCore.has_outcome.Goals as goal

pub returns-then-task-len : goal.returns-then-task-len
returns-then-task-len c =
    let here = c.if-task-len.true in
    c.is_some.ensures
    ∙ ap (λ (o : Option Outcome). is_some o) (c.index.ensures
    ∙ get_or_default c.self.inside.outcomes.items c.args.task c.index.result.now None (omega (arith, here, c.len.ensures, c.self.inside.outcomes.ok.0)))
    ∙ ap (λ (m : SeenMoves). has_outcome m c.args.task) c.self.view_is
