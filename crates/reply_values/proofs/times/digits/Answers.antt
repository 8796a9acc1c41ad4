use Rattle.std.proofs.Common.{◌≡◌, ◌<◌, arith, get_or}
use Rattle.std.specs.Char.{digit_value}
use Rattle.std.proofs.lemmas.Bool.Decides.{nat_tests}
use Rattle.std.proofs.lemmas.Str.Parse.{digit_at}
use Rattle.reply_values.proofs.TimeLemmas.{reads_more, nine_digits}
use Rattle.reply_values.proofs.times.digits.Goals as goal

pub returns-then-not-is_ascii_digit-clause-refused :
    goal.returns-then-not-is_ascii_digit-clause-refused
returns-then-not-is_ascii_digit-clause-refused c = λ number h.
    let digit = digit_at c.args.text.now c.loop-byte.byte-index h.digits.1 c.loop-byte-test.true in
    grind (arith, nat_tests, digit, c.if-not-is_ascii_digit.ensures.cases)

pub overflow_mul-number : goal.overflow_mul-number
overflow_mul-number c = omega (
  arith,
  nine_digits c.loop-byte.byte-index c.loop-byte.number
      (omega arith) c.loop-byte.invariant.small,
)

pub overflow_add-number : goal.overflow_add-number
overflow_add-number c = omega (
  arith,
  nine_digits c.loop-byte.byte-index c.loop-byte.number
      (omega arith) c.loop-byte.invariant.small,
)

pub loop-byte-preserved : goal.loop-byte-preserved
loop-byte-preserved c =
    let digit : digit_value (get_or c.args.text.now c.loop-byte.byte-index 0) ≡ c.from.result =
    grind (arith, nat_tests) in
    let small : c.from.result < 10 = grind (arith, nat_tests) in
    reads_more c.args.text.now c.loop-byte.byte-index c.loop-byte.number c.from.result c.loop-byte-test.true
    c.loop-byte.invariant digit small
