use Rattle.std.proofs.Common.{◌∙◌, ◌++◌, ap, sym, string_bytes, append_assoc, lit<}
use Rattle.std.specs.List.{join_with_byte}
use Rattle.std.proofs.lemmas.Iterator.Splits.{YieldsList-from_str_split}
use Rattle.std.proofs.lemmas.Iterator.Consumers.{YieldsList-end}
use Rattle.s3_signing.specs.Signing.{trimmed, words}
use Rattle.s3_signing.proofs.HeaderLemmas.{join_more, words_more, more_not_empty}
use Rattle.s3_signing.proofs.headers.push_trimmed.Goals as goal

pub loop-word-preserved-then-not-is_empty : goal.loop-word-preserved-then-not-is_empty
loop-word-preserved-then-not-is_empty c =
    let grown = words_more c.loop-word.yielded c.in-Some.word (sym c.is_empty.ensures ∙ c.if-not-is_empty.true) in
    record {
      text = rw (grown, join_more, c.in_ok-push_piece.ensures, c.loop-word.invariant.text, c.loop-word.invariant.first, append_assoc);
      first = rw grown (more_not_empty _ _);
    }

pub returns : goal.returns
unfolding trimmed
returns c =
    let all = YieldsList-from_str_split {s = c.into_iter-word-iterator.result} 32 c.args.value.now (lit< tt) (cc) (cc) (cc) in
    let end = YieldsList-end all c.loop-word.yielded _ c.loop-word.yielded_by _ _ c.in-None.is c.next.ensures.steps in
    c.loop-word.invariant.text ∙ ap (λ pieces. string_bytes c.args.out.now ++ join_with_byte 32 (words pieces)) end.0
