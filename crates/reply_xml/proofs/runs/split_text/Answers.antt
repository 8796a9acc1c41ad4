use Rattle.std.proofs.lemmas.Bool.{true≢false}
use Rattle.std.proofs.Common.{arith, length, sym}
use Rattle.std.proofs.lemmas.List.{take_all}
use Rattle.reply_xml.proofs.RunLemmas.{no_reference_to, plain_to, plain_whole, text_to, text_whole}
use Rattle.reply_xml.proofs.runs.split_text.Goals as goal

pub returns-in_default-clause-value : goal.returns-in_default-clause-value
returns-in_default-clause-value c = plain_whole c.args.bytes.now c.in_default.ensures

pub returns-in_default-clause-plain : goal.returns-in_default-clause-plain
returns-in_default-clause-plain c _ =
    no_reference_to c.args.bytes.now c.args.bytes.now (length c.args.bytes.now) (omega arith)
    (sym (take_all (length c.args.bytes.now) c.args.bytes.now (omega arith))) c.in_default.ensures

pub returns-then-bytes-place-eq60-clause-value : goal.returns-then-bytes-place-eq60-clause-value
returns-then-bytes-place-eq60-clause-value c =
    plain_to c.args.bytes.now _ _ c.in-Some.place c.in-Some.ensures.0.high c.split_at.ensures.front
    c.split_at.ensures.back c.in-Some.ensures.0.before c.if-bytes-place-eq60.true

pub returns-then-bytes-place-eq60-clause-plain : goal.returns-then-bytes-place-eq60-clause-plain
returns-then-bytes-place-eq60-clause-plain c _ =
    no_reference_to c.args.bytes.now _ c.in-Some.place (omega (arith, c.in-Some.ensures.0.high)) c.split_at.ensures.front
    c.in-Some.ensures.0.before

pub returns-in-Some-memchr-clause-value : goal.returns-in-Some-memchr-clause-value
returns-in-Some-memchr-clause-value c =
    text_to c.args.bytes.now _ _ c.in-Some-memchr.end c.in-Some-memchr.ensures.0.high
    c.split_at-in-Some-memchr.ensures.front c.split_at-in-Some-memchr.ensures.back
    c.in-Some-memchr.ensures.0.before c.in-Some-memchr.ensures.1

pub returns-in-None-clause-value : goal.returns-in-None-clause-value
returns-in-None-clause-value c = text_whole c.args.bytes.now c.in-None.ensures

pub returns-in-Some-memchr-clause-plain : goal.returns-in-Some-memchr-clause-plain
returns-in-Some-memchr-clause-plain c e = absurd (true≢false e)
