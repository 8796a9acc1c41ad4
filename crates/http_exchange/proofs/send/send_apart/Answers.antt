use Rattle.std.proofs.lemmas.Result.{err_from_is_err_and}
use Rattle.http_exchange.proofs.AskLemmas.{sends_first, sends_both}
use Rattle.http_exchange.proofs.send.send_apart.Goals as goal

pub returns-in_err-send_all-clause-log : goal.returns-in_err-send_all-clause-log
returns-in_err-send_all-clause-log g c =
    let p = err_from_is_err_and c.from_residual.result c.from_residual.ensures.1 in
    rw p.1 (sends_first c.args.head.now c.args.body.now _ _ c.in_err-send_all.field-0.0 p.0 c.in_err-send_all.ensures.log)

pub returns-clause-log : goal.returns-clause-log
returns-clause-log g c =
    sends_both c.args.head.now c.args.body.now _ _ _ c.send_all-2.result c.in_ok-send_all.ensures.log c.send_all-2.ensures.log
