use Rattle.std.proofs.Common.{◌+◌, ◌==◌, ap, take, drop, sym, ◌∙◌}
use Rattle.aws_profile.proofs.TextLemmas.{position_found, position_missed, take_rest}
use Rattle.aws_profile.proofs.texts.split_once.Goals as goal

pub returns-in_err-at-clause-found : goal.returns-in_err-at-clause-found
returns-in_err-at-clause-found c = rw c.from_residual.ensures (sym (position_missed (λ each. each == c.args.byte) c.args.text.now (sym c.place_of.ensures ∙ c.in_err-at.was)).0)

pub returns-clause-found : goal.returns-clause-found
returns-clause-found c = sym (position_found (λ each. each == c.args.byte) c.args.text.now c.in_ok-at.at (sym c.place_of.ensures ∙ c.in_ok-at.was)).0

pub returns-clause-before : goal.returns-clause-before
returns-clause-before c =
    let at = (position_found (λ each. each == c.args.byte) c.args.text.now c.in_ok-at.at (sym c.place_of.ensures ∙ c.in_ok-at.was)).1 in
    ap (λ n. take n c.args.text.now) (sym at)

pub returns-clause-after : goal.returns-clause-after
returns-clause-after c =
    let at = (position_found (λ each. each == c.args.byte) c.args.text.now c.in_ok-at.at (sym c.place_of.ensures ∙ c.in_ok-at.was)).1 in
    take_rest (c.in_ok-at.at + 1) c.args.text.now ∙ ap (λ n. drop (n + 1) c.args.text.now) (sym at)
