use Rattle.std.proofs.Common.{arith}
use Rattle.reply_values.proofs.NumberLemmas.{Writes-same}
use Rattle.reply_values.proofs.times.seconds.Goals as goal

pub returns-in_err-hour-clause-refused : goal.returns-in_err-hour-clause-refused
returns-in_err-hour-clause-refused c = rw c.from_residual.ensures
    (λ seconds h. c.in_err-hour.ensures.refused h.hour h.hour_digits)

pub returns-in_err-minute-clause-refused : goal.returns-in_err-minute-clause-refused
returns-in_err-minute-clause-refused c = rw c.from_residual-in_err-minute.ensures
    (λ seconds h. c.in_err-minute.ensures.refused h.minute h.minute_digits)

pub returns-in_err-second-clause-refused : goal.returns-in_err-second-clause-refused
returns-in_err-second-clause-refused c = rw c.from_residual-in_err-second.ensures
    (λ seconds h. c.in_err-second.ensures.refused h.second h.second_digits)

pub returns-clause-value : goal.returns-clause-value
returns-clause-value c = record {
  hour = c.in_ok-hour.hour;
  minute = c.in_ok-minute.minute;
  second = c.in_ok-second.second;
  hour_digits = c.in_ok-hour.ensures.value;
  minute_digits = c.in_ok-minute.ensures.value;
  second_digits = c.in_ok-second.ensures.value;
  valid = (c.if-hour-gt23.false, c.if-minute-gt59.false, c.if-second-gt59.false);
  count = c.from.ensures;
}

pub returns-clause-small : goal.returns-clause-small
returns-clause-small c = omega arith

pub returns-then-hour-gt23-clause-refused : goal.returns-then-hour-gt23-clause-refused
returns-then-hour-gt23-clause-refused c seconds h =
    let hour = Writes-same h.hour_digits c.in_ok-hour.ensures.value in
    let minute = Writes-same h.minute_digits c.in_ok-minute.ensures.value in
    let second = Writes-same h.second_digits c.in_ok-second.ensures.value in
    omega (arith, h.valid, c.then-hour-gt23.either)
