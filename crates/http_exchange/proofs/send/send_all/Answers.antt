use Rattle.std.proofs.Common.{◌≡◌, ℕ, ◌+◌, ◌-◌, List, [], ◌++◌, length, take, drop, sym, refl, ap, ◌∙◌, arith}
use Rattle.std.proofs.Math.Seq.{take-add}
use Rattle.std.proofs.lemmas.List.{take_all, take_rest}
use Rattle.std.proofs.lemmas.Result.{err_from_is_err_and}
use Rattle.s3_outside.specs.Wire.{sends, fails}
use Rattle.http_exchange.proofs.TalkLemmas.{seen_same, seen_after, sends_after, sends_nothing}
use Rattle.http_exchange.proofs.send.send_all.Goals as goal

pub loop-sent-init : goal.loop-sent-init
loop-sent-init g c = record {
  in_range = omega arith;
  seen = seen_same (sends []) sends_nothing _;
  later = omega arith;
}

more : (bytes : List ℕ) (sent count : ℕ) → take sent bytes ++ take count (take (length bytes - sent) (drop sent bytes)) ≡ take (sent + count) bytes
more bytes sent count =
    ap (λ (rest : List ℕ). take sent bytes ++ take count rest) (take_rest bytes sent) ∙ sym (take-add sent count bytes)

pub loop-sent-preserved : goal.loop-sent-preserved
loop-sent-preserved g c = record {
  in_range = omega (arith, c.in_ok-sent.ensures.bound);
  seen = seen_after (sends (take c.in_ok-sent.field-0 (take (length c.args.bytes.now - c.loop-sent.sent) (drop c.loop-sent.sent c.args.bytes.now)))) (sends (take c.loop-sent.sent c.args.bytes.now))
      (sends (take (c.loop-sent.sent + c.in_ok-sent.field-0) c.args.bytes.now))
      (λ talk. sends_after _ _ talk ∙ ap (λ (bytes : List ℕ). sends bytes talk) (more c.args.bytes.now c.loop-sent.sent c.in_ok-sent.field-0))
      _ _ _ c.loop-sent.invariant.seen c.in_ok-sent.ensures.log;
  later = omega (arith, c.send.ensures.cause.later);
}

pub returns-in_err-sent-clause-log : goal.returns-in_err-sent-clause-log
returns-in_err-sent-clause-log g c =
    let p = err_from_is_err_and c.from_residual.result c.from_residual.ensures.1 in
    rw p.1 (c.loop-sent.sent, seen_after fails (sends (take c.loop-sent.sent c.args.bytes.now)) (λ talk. fails (sends (take c.loop-sent.sent c.args.bytes.now) talk)) (λ talk. refl) _ _ _ c.loop-sent.invariant.seen c.in_err-sent.ensures.log)

pub returns-clause-log : goal.returns-clause-log
returns-clause-log g c =
    let whole = take_all c.loop-sent.sent c.args.bytes.now c.loop-sent-test.false in
    rw whole at c.loop-sent.invariant.seen
