use Rattle.std.proofs.Common.{◌≡◌, ◌∙◌, sym, ap, arith, get_or}
use Rattle.std.specs.Char.{digit_value}
use Rattle.std.proofs.lemmas.List.{take_rest}
use Rattle.reply_values.proofs.UrlTextLemmas.{hex_piece}
use Rattle.reply_values.proofs.url_text.hex_byte.Goals as goal

pub returns-clause-value : goal.returns-clause-value
returns-clause-value c =
    let digits = c.args.digits.now in
    let high : digit_value (get_or digits 0 0) ≡ c.in_ok-high.high = ap digit_value (sym c.from.ensures)
    ∙ sym c.in_ok-high.ensures.value.1 in
    let low : digit_value (get_or digits 1 0) ≡ c.in_ok-low.low = ap digit_value (sym c.from-2.ensures)
    ∙ sym c.in_ok-low.ensures.value.1 in
    rw (take_rest digits 2) (hex_piece digits c.in_ok-high.high c.in_ok-low.low c.if-digits-lt2.false high
    (omega (arith, c.in_ok-high.ensures.value)) low (omega (arith, c.in_ok-low.ensures.value)))
