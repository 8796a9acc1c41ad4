use Rattle.std.proofs.Common.{◌≡◌, ◌∙◌, ◌<◌, Bool, List, get_or, length, set, ap, sym, arith}
use Rattle.piece_stages.specs.Pieces.{SeenPieces, can_place, can_read, can_send, is_busy, is_placed, is_sent, no_piece}
use Rattle.piece_stages.proofs.Index.{one_put, recount_as}
use Rattle.piece_stages.proofs.pieces.Pieces.put.Goals as goal

pub invariant_of-self : goal.invariant_of-self
invariant_of-self c =
    let s = c.self.inside in
    let k = c.args.index in
    let piece = c.args.piece in
    let inside : k < length s.stages.items = omega (arith, c.requires, ap (λ (seen : SeenPieces). length seen.stages) c.self.view_is) in
    let old = get_or s.stages.items k no_piece in
    let same : c.get-before.result ≡ old = c.get-before.ensures ∙ sym (ap (λ (seen : SeenPieces). get_or seen.stages k no_piece) c.self.view_is) in
    one_put s.reads_first s.stages.items s.reads s.sends s.places s.sent s.placed s.busy k piece _ _ _ _ _ _ inside c.self.invariant
    (c.put.ensures ∙ ap (λ (b : Bool). set s.reads k b) c.can_read.ensures)
    (c.put-2.ensures ∙ ap (λ (b : Bool). set s.sends k b) c.can_send.ensures)
    (c.put-3.ensures ∙ ap (λ (b : Bool). set s.places k b) c.can_place.ensures)
    (recount_as is_sent c.is_sent.result c.is_sent-2.result c.get-before.result old piece s.sent _ c.is_sent.ensures same c.is_sent-2.ensures c.recount-self-inside.ensures)
    (recount_as is_placed c.is_placed.result c.is_placed-2.result c.get-before.result old piece s.placed _ c.is_placed.ensures same c.is_placed-2.ensures c.recount-self-inside-2.ensures)
    (recount_as is_busy c.is_busy.result c.is_busy-2.result c.get-before.result old piece s.busy _ c.is_busy.ensures same c.is_busy-2.ensures c.recount-self-inside-3.ensures)
