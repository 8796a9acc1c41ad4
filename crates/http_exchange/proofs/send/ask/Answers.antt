use Rattle.std.proofs.Common.{◌++◌, arith, refl}
use Rattle.std.proofs.lemmas.Result.{err_from_is_err_and}
use Rattle.http_exchange.proofs.AskLemmas.{asked_none, asked}
use Rattle.http_exchange.proofs.send.ask.Goals as goal

pub returns-in_err-begin-clause-talk : goal.returns-in_err-begin-clause-talk
returns-in_err-begin-clause-talk g c =
    let p = err_from_is_err_and c.from_residual.result c.from_residual.ensures.1 in
    rw p.1 (asked_none c.args.endpoint.now c.as_str.result.now c.args.endpoint.now.port (c.args.head.now ++ c.args.body.now) _ _ _ _ p.0 c.as_str.ensures refl c.in_err-begin.ensures.log)

pub returns-clause-talk : goal.returns-clause-talk
returns-clause-talk g c =
    asked c.args.endpoint.now c.as_str.result.now c.args.endpoint.now.port (c.args.head.now ++ c.args.body.now) _ _ _ (g.W.Wire.faults c.args.wire.now) (g.W.Wire.faults c.begin.new.self) (g.W.Wire.faults c.send_request.new.wire) c.send_request.result c.as_str.ensures refl
    c.in_ok-begin.ensures.log c.send_request.ensures.log (omega (arith, c.send_request.ensures.cause.later))
