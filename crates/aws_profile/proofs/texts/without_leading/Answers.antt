use Rattle.std.proofs.Common.{ap, drop, sym, ◌∙◌, not, length, arith}
use Rattle.std.specs.List.{position_or_len}
use Rattle.std.proofs.lemmas.List.{drop_all}
use Rattle.aws_profile.specs.Lines.{is_blank}
use Rattle.aws_profile.proofs.TextLemmas.{position_found, position_missed, take_rest}
use Rattle.aws_profile.proofs.texts.without_leading.Goals as goal

pub returns-in-Some : goal.returns-in-Some
returns-in-Some c =
    let found = position_found (λ byte. not (is_blank byte)) c.args.text.now c.in-Some.start (sym c.in-Some.ensures) in
    take_rest c.in-Some.start c.args.text.now ∙ ap (λ n. drop n c.args.text.now) (sym found.1)

pub returns-in-None : goal.returns-in-None
returns-in-None c =
    let text = c.args.text.now in
    let missed = position_missed (λ byte. not (is_blank byte)) text (sym c.in-None.ensures) in
    take_rest (length text) text ∙ drop_all (length text) text (omega arith) ∙ sym (drop_all (position_or_len (λ byte. not (is_blank byte)) text) text missed.1)
