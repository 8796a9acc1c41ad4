use Rattle.std.proofs.Common.{◌≡◌, ℕ, List, ◌++◌, ◌∙◌, eqb, length, sym, ap, subst, arith}
use Rattle.std.specs.Option.{option_map}
use Rattle.s3_model.specs.declared.answers.Talked.{Talked}
use Rattle.s3_outside.specs.Wire.{is_kept}
use Rattle.http_exchange.specs.Exchange.{IsExchange, RawRequest}
use Rattle.http_exchange.specs.Seen.{hears}
use Rattle.http_exchange.specs.Steps.{ends_kept}
use Rattle.http_exchange.proofs.ExchangeLemmas.{exchanged, kept_after, kept_well}
use Rattle.http_exchange.proofs.TalkLemmas.{changed_after_begin}
use Rattle.http_exchange.proofs.talk.exchange.Goals as goal

pub returns-in-Ok-clause-talk : goal.returns-in-Ok-clause-talk
returns-in-Ok-clause-talk g c =
    let a = c.in-Ok.ensures.talk in
    let h = c.receive-answer.ensures.heard in
    let request : RawRequest = record { endpoint = c.args.endpoint.now; bytes = c.args.head.now ++ c.args.body.now; head_only = c.args.head_only; limit = c.args.limit; keep = c.args.keep } in
    let behind = c.receive-answer.new.room.incoming in
    let entire = c.is_empty-is_entire.result in
    let kept = ends_kept c.args.keep entire c.receive-answer.result in
    let empty : entire ≡ eqb (length behind) 0 = c.is_empty-is_entire.ensures ∙ ap (λ (b : List ℕ). eqb (length b) 0) c.bytes.ensures in
    let seen = changed_after_begin (hears h.0 h.1) a.0 _ _ _ (g.W.Wire.faults c.args.wire.now) (g.W.Wire.faults c.ask.new.wire) (g.W.Wire.faults c.end.new.wire) a.1 (c.end.ensures.log ∙ h.2)
    (omega (arith, c.receive-answer.ensures.cause.later, c.end.ensures.later)) in
    let T : Talked → Type 0 = λ talked. IsExchange request c.args.into.now c.receive-answer.new.into talked (hears h.0 h.1 a.0) kept in (
      hears h.0 h.1 a.0,
      kept,
      seen,
      c.end.ensures.alive ∙ ap (option_map (is_kept kept)) (sym c.end.ensures.log)
          ∙ kept_after kept (hears h.0 h.1 a.0) _ _ _ _ seen (kept_well c.args.head_only c.args.limit c.args.keep entire behind c.args.into.now c.receive-answer.new.into c.receive-answer.result h.0 h.1 a.0 a.2.whole.1 h.3),
      subst T (sym c.end.ensures.talked) (exchanged request c.args.into.now c.receive-answer.new.into behind a.0 h.0 h.1 entire c.in-Ok.field-0 c.receive-answer.result empty a.2 h.3),
    )
