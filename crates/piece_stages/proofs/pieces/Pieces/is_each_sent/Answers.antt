use Rattle.std.proofs.Common.{◌≡◌, ◌∙◌, ℕ, length, ap, arith}
use Rattle.std.specs.List.{list_all}
use Rattle.piece_stages.specs.Pieces.{SeenPieces, is_sent}
use Rattle.piece_stages.proofs.Index.{each}
use Rattle.piece_stages.proofs.pieces.Pieces.is_each_sent.Goals as goal

pub returns : goal.returns
returns c =
    let stages = c.self.inside.stages in
    let long : c.len.result ≡ length stages.items = omega (arith, c.len.ensures, stages.ok.0) in
    each is_sent stages.items c.self.inside.sent c.len.result c.self.invariant.sent_is long ∙ ap (λ (s : SeenPieces). list_all is_sent s.stages) c.self.view_is
