use Rattle.std.proofs.Common.{arith}
use Rattle.std.proofs.lemmas.Result.{err_from_is_err_and}
use Rattle.http_exchange.proofs.StraightLemmas.{failed_more, moved_more, straight_more}
use Rattle.http_exchange.proofs.straight.take_more.Goals as goal

pub fill_from-requires-clause-room : goal.fill_from-requires-clause-room
fill_from-requires-clause-room g c = omega (arith, c.min.ensures, c.requires.room)

pub returns-then-missing-ge-PIECE-clause-heard : goal.returns-then-missing-ge-PIECE-clause-heard
returns-then-missing-ge-PIECE-clause-heard g c =
    let h = c.fill_from.ensures.heard in
    (h.0, h.1, h.2, straight_more c.args.missing c.min.result _ _ _ c.fill_from.result h.0 h.1 c.requires.empty c.min.ensures h.3)

pub returns-in_err-count-clause-heard : goal.returns-in_err-count-clause-heard
returns-in_err-count-clause-heard g c =
    let p = err_from_is_err_and c.from_residual.result c.from_residual.ensures.1 in
    let h = c.in_err-count.ensures.heard in
    (h.0, h.1, h.2, failed_more c.args.missing c.args.incoming.now c.refill.new.self c.refill.new.self c.args.body.now.bytes c.args.body.now.bytes c.from_residual.result _ _ h.0 h.1 p.1 p.2 h.3)

pub returns-clause-heard : goal.returns-clause-heard
returns-clause-heard g c =
    let h = c.in_ok-count.ensures.heard in
    (h.0, h.1, h.2, moved_more c.args.missing _ _ _ _ _ _ _ h.0 h.1 c.requires.empty c.move_to.ensures.count c.move_to.ensures.moved c.move_to.ensures.left h.3)
