use Rattle.std.proofs.Common.{◌≡◌, ◌<◌, ◌-◌, ◌∙◌, false, length, get_or, arith, take, ap, sym}
use Rattle.std.specs.List.{suffix_len}
use Rattle.std.proofs.lemmas.List.Sums.{suffix_len_is}
use Rattle.aws_profile.specs.Lines.{is_blank}
use Rattle.aws_profile.proofs.texts.without_trailing.Goals as goal
use Rattle.aws_profile.proofs.texts.without_trailing.Goals.{then-loop-end-test+else-is_blank, else-loop-end-test}

pub returns : goal.returns
returns c =
    let text = c.args.text.now in
    let here : 0 < c.loop-end.end → is_blank (get_or text (c.loop-end.end - 1) 0) ≡ false =
    elim c.loop-end-test.branch [ then-loop-end-test+else-is_blank w ↦ (λ _. sym w.is_blank.ensures ∙ w.if-is_blank.false) | else-loop-end-test w ↦ (λ some. absurd (omega arith)) ] in
    let tail = suffix_len_is is_blank text c.loop-end.end 0 c.loop-end.invariant.inside c.loop-end.invariant.blank here in
    let end_is : c.loop-end.end ≡ length text - suffix_len is_blank text = omega arith in
    ap (λ n. take n text) end_is
