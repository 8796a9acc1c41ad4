use Rattle.std.proofs.Common.{ap, sym, ◌∙◌}
use Rattle.answer_grammar.specs.Head.{is_short_number}
use Rattle.answer_grammar.proofs.RangeLemmas.{no_slash, at_slash, no_number}
use Rattle.answer_grammar.proofs.fields.range_of.Goals as goal

pub returns-in_err-last : goal.returns-in_err-last
returns-in_err-last c =
    rw c.from_residual-in_err-last.ensures (λ range s. no_slash _ _ _ _ range c.in_ok-numbers.ensures c.in_ok-first.ensures.0 c.in_ok-first.ensures.1 c.in_err-last.ensures s)

pub returns-in_err-short_number : goal.returns-in_err-short_number
returns-in_err-short_number c =
    rw c.from_residual-in_err-short_number.ensures (λ range s.
    let cut = at_slash _ _ _ _ _ _ range c.in_ok-numbers.ensures c.in_ok-first.ensures.0 c.in_ok-first.ensures.1 c.in_ok-last.ensures.0 c.in_ok-last.ensures.1 s in
    no_number _ _ c.in_err-short_number.ensures (ap is_short_number (sym cut.0) ∙ s.numbers.0))

pub returns-in_err-short_number-2 : goal.returns-in_err-short_number-2
returns-in_err-short_number-2 c =
    rw c.from_residual-in_err-short_number-2.ensures (λ range s.
    let cut = at_slash _ _ _ _ _ _ range c.in_ok-numbers.ensures c.in_ok-first.ensures.0 c.in_ok-first.ensures.1 c.in_ok-last.ensures.0 c.in_ok-last.ensures.1 s in
    no_number _ _ c.in_err-short_number-2.ensures (ap is_short_number (sym cut.1) ∙ s.numbers.1))

pub returns-in_err-short_number-3 : goal.returns-in_err-short_number-3
returns-in_err-short_number-3 c =
    rw c.from_residual-in_err-short_number-3.ensures (λ range s.
    let cut = at_slash _ _ _ _ _ _ range c.in_ok-numbers.ensures c.in_ok-first.ensures.0 c.in_ok-first.ensures.1 c.in_ok-last.ensures.0 c.in_ok-last.ensures.1 s in
    no_number _ _ c.in_err-short_number-3.ensures (ap is_short_number (sym cut.2) ∙ s.numbers.2))
