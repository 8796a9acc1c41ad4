use Rattle.std.proofs.Common.{◌∙◌, List, length, replicate, ap}
use Rattle.std.proofs.lemmas.List.{length-replicate}
use Rattle.piece_stages.specs.declared.piece.PieceStages.{PieceStages}
use Rattle.piece_stages.specs.Pieces.{SeenPieces, no_piece}
use Rattle.task_stages.specs.declared.singles.Singles.{Singles}
use Rattle.task_stages.specs.Stages.{stage_by}
use Rattle.task_stages.proofs.Agreement.{waits}
use Rattle.task_stages.proofs.task_stages.TaskStages.make.Goals as goal

pub returns-clause-waiting : goal.returns-clause-waiting
returns-clause-waiting c of_act =
    let w = c.args.work in
    let pieces = ap (λ (p : SeenPieces). p.stages) c.in_ok-pieces.ensures in
    ap (λ (ps : List PieceStages). stage_by (record { work = w; singles = c.none.result; pieces = ps }) of_act) pieces
    ∙ ap (λ (x : Singles). stage_by (record { work = w; singles = x; pieces = replicate c.piece_count-count.result no_piece }) of_act) c.none.ensures
    ∙ waits w c.piece_count-count.result of_act

pub returns-clause-pieces : goal.returns-clause-pieces
returns-clause-pieces c =
    ap (λ (p : SeenPieces). length p.stages) c.in_ok-pieces.ensures ∙ length-replicate c.piece_count-count.result no_piece ∙ c.piece_count-count.ensures
