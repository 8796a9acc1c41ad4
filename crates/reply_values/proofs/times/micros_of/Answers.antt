use Rattle.std.proofs.Common.{◌≤◌, length, arith}
use Rattle.reply_values.proofs.TimeLemmas.{micros_by, micros_small}
use Rattle.reply_values.proofs.times.micros_of.Goals as goal

pub returns-clause-value : goal.returns-clause-value
returns-clause-value c = rw (c.from.ensures, c.pow-unit.ensures) (record {
  number = c.in_ok-digits.field-0;
  digits = c.in_ok-digits.ensures.value;
  few = omega arith;
  value = micros_by _ _ (omega arith);
})

pub returns-clause-small : goal.returns-clause-small
returns-clause-small c =
    let few : length c.args.fraction.now ≤ 9 = omega arith in
    rw (c.from.ensures, c.pow-unit.ensures, micros_by (length c.args.fraction.now) c.in_ok-digits.field-0 few)
    (micros_small _ _ c.in_ok-digits.ensures.small)
