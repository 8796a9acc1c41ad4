use Rattle.std.proofs.Common.{arith, subst}
use Rattle.s3_model.specs.declared.places.Endpoint.{Endpoint}
use Rattle.s3_model.specs.declared.settings.Keys.{Keys}
use Rattle.attempts.specs.Attempts.{SignedRequest}
use Rattle.attempts.specs.Steps.{IsAnsweredBy}
use Rattle.attempts.proofs.AttemptLemmas.{attempted_once, classed, closed}
use Rattle.attempts.proofs.send.attempt.Goals as goal

pub returns-in-Ok-clause-gained : goal.returns-in-Ok-clause-gained
returns-in-Ok-clause-gained g c =
    let request : Endpoint → Keys → SignedRequest = λ endpoint keys. record { endpoint = endpoint; keys = keys; asked = c.args.ask.now; body = c.args.payload.now; limit = c.args.limit } in
    let Answered : Endpoint → Keys → Type 0 = λ endpoint keys. IsAnsweredBy (request endpoint keys) c.args.keep c.sign.new.client.heads (g.W.Wire.seen c.sign.new.wire) (g.W.Wire.seen c.send.new.wire)
    (g.W.Wire.alive c.send.new.wire) (g.W.Wire.faults c.sign.new.wire) (g.W.Wire.faults c.send.new.wire) c.args.into.now c.send.new.into c.send.result in
    let client = c.args.client.now in
    let answered = subst (λ (endpoint : Endpoint). Answered endpoint client.signer) c.sign.ensures.endpoint
    (subst (λ (keys : Keys). Answered c.sign.new.client.endpoint keys) c.sign.ensures.keys c.send.ensures.answered) in
    attempted_once (request client.endpoint client.signer) c.args.keep c.sign.new.client.heads c.send.result _ _ _ _ _ _ _ _ c.requires.limit c.in-Ok.ensures.signed answered

pub returns-in-Ok-clause-classed : goal.returns-in-Ok-clause-classed
returns-in-Ok-clause-classed g c =
    let request : SignedRequest = record { endpoint = c.sign.new.client.endpoint; keys = c.sign.new.client.signer; asked = c.args.ask.now; body = c.args.payload.now; limit = c.args.limit } in
    classed request c.args.keep c.sign.new.client.heads c.send.result _ _ _ _ _ _ _ c.requires.limit c.send.ensures.answered

pub returns-in-Ok-clause-kept : goal.returns-in-Ok-clause-kept
returns-in-Ok-clause-kept g c =
    let request : SignedRequest = record { endpoint = c.sign.new.client.endpoint; keys = c.sign.new.client.signer; asked = c.args.ask.now; body = c.args.payload.now; limit = c.args.limit } in
    closed request c.args.keep c.sign.new.client.heads c.send.result _ _ _ _ _ _ _ c.send.ensures.answered

pub returns-in-Ok-clause-failed : goal.returns-in-Ok-clause-failed
returns-in-Ok-clause-failed g c = λ is. omega (arith, c.send.ensures.failed is, c.in-Ok.ensures.later)
