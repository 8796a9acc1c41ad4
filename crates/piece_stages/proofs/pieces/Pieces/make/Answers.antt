use Rattle.std.proofs.Common.{◌≡◌, ◌∙◌, List, replicate, ap, arith}
use Rattle.piece_stages.specs.declared.piece.PieceStages.{PieceStages}
use Rattle.piece_stages.specs.Pieces.{no_piece}
use Rattle.piece_stages.proofs.Index.{none_given}
use Rattle.piece_stages.proofs.pieces.Pieces.make.Goals as goal

pub invariant_of-result : goal.invariant_of-result
invariant_of-result c =
    let copies : c.in_ok-stages.stages.items ≡ replicate c.args.count c.none.result = c.in_ok-stages.ensures.items_if_clones_equal (λ y h. h) in
    let stages = copies ∙ ap (λ (piece : PieceStages). replicate c.args.count piece) c.none.ensures in
    none_given c.args.count c.args.reads_first _ _ _ _ (omega (arith, c.ranges.count)) stages c.in_ok-reads.ensures c.in_ok-sends.ensures c.in_ok-places.ensures
