use Rattle.std.proofs.Common.{◌≡◌, ◌∙◌, Bool, List, ap}
use Rattle.std.specs.List.{position}
use Rattle.number_sets.specs.Members.{is_set}
use Rattle.piece_stages.specs.Pieces.{SeenPieces, can_read}
use Rattle.piece_stages.proofs.Index.{first_of}
use Rattle.piece_stages.proofs.pieces.Pieces.first_read.Goals as goal

pub returns : goal.returns
returns c =
    c.first.ensures ∙ ap (λ (flags : List Bool). position is_set flags) c.self.invariant.reads_are ∙ first_of can_read c.self.inside.stages.items
    ∙ ap (λ (s : SeenPieces). position can_read s.stages) c.self.view_is
