use Rattle.std.proofs.Common.{◌∙◌, sym, arith, FitsSigned, w32}
use Rattle.std.proofs.lemmas.Bool.{false≢true}
use Rattle.jiff_core.proofs.SignedLemmas.{signed_arith}
use Rattle.jiff_core.proofs.DateLemmas.{civil}
use Rattle.reply_values.specs.Times.{HasDate}
use Rattle.reply_values.proofs.NumberLemmas.{Writes-same}
use Rattle.reply_values.proofs.TimeLemmas.{IsSmallDate, read_ok, date_is, date_parts, counted, counted_small}
use Rattle.reply_values.proofs.TimeLemmas.{none_counted}
use Rattle.reply_values.proofs.times.days.Goals as goal

pub returns-in_err-year-clause-refused : goal.returns-in_err-year-clause-refused
returns-in_err-year-clause-refused c =
    rw c.from_residual.ensures (λ days h. c.in_err-year.ensures.refused h.year h.year_digits)

pub returns-in_err-month-clause-refused : goal.returns-in_err-month-clause-refused
returns-in_err-month-clause-refused c =
    rw c.from_residual-in_err-month.ensures (λ days h. c.in_err-month.ensures.refused h.month h.month_digits)

pub returns-in_err-day-clause-refused : goal.returns-in_err-day-clause-refused
returns-in_err-day-clause-refused c =
    rw c.from_residual-in_err-day.ensures (λ days h. c.in_err-day.ensures.refused h.day h.day_digits)

pub returns-in_err-date-clause-refused : goal.returns-in_err-date-clause-refused
returns-in_err-date-clause-refused c =
    rw c.from_residual-in_err-date.ensures (λ days h.
    let small : IsSmallDate c.in_ok-year.year c.in_ok-month.month c.in_ok-day.day = record {
      year = c.in_ok-year.ensures.small;
      month = c.in_ok-month.ensures.small;
      day = c.in_ok-day.ensures.small;
    } in
    let valid = rw (
      Writes-same h.year_digits c.in_ok-year.ensures.value,
      Writes-same h.month_digits c.in_ok-month.ensures.value,
      Writes-same h.day_digits c.in_ok-day.ensures.value,
    )
    at h.valid in
    let is = c.new.ensures.succeeds.1 (date_is _ _ _ small valid) in
    false≢true (c.in_err-date.ensures.variant ∙ is))

pub overflow_cast-year : goal.overflow_cast-year
overflow_cast-year c = omega (arith, c.in_ok-year.ensures.small)

pub overflow_cast-month : goal.overflow_cast-month
overflow_cast-month c = omega (arith, c.in_ok-month.ensures.small)

pub overflow_cast-day : goal.overflow_cast-day
overflow_cast-day c = omega (arith, c.in_ok-day.ensures.small)

pub returns-clause-value : goal.returns-clause-value
returns-clause-value c =
    let text = c.args.text.now in
    let date = c.in_ok-date.date in
    let day = c.to_unix_epoch_day.result in
    let small : IsSmallDate c.in_ok-year.year c.in_ok-month.month c.in_ok-day.day = record {
      year = c.in_ok-year.ensures.small;
      month = c.in_ok-month.ensures.small;
      day = c.in_ok-day.ensures.small;
    } in
    let parts = date_parts _ _ _ date small
    (read_ok c.new.result date _ c.in_ok-date.ensures.value c.new.ensures.value) in
    let fits : FitsSigned w32 day = omega (arith, signed_arith, c.to_unix_epoch_day.ensures.bound) in
    rw c.ok-2.ensures.value (counted c.try_from.result day (HasDate text) fits c.try_from.ensures (λ days is. record {
      year = c.in_ok-year.year;
      month = c.in_ok-month.month;
      day = c.in_ok-day.day;
      year_digits = c.in_ok-year.ensures.value;
      month_digits = c.in_ok-month.ensures.value;
      day_digits = c.in_ok-day.ensures.value;
      valid = rw (parts.0, parts.1, parts.2) at (civil date);
      count = rw (parts.0, parts.1, parts.2) at (sym c.to_unix_epoch_day.ensures.value ∙ is);
    }))

pub returns-clause-small : goal.returns-clause-small
returns-clause-small c =
    let day = c.to_unix_epoch_day.result in
    let fits : FitsSigned w32 day = omega (arith, signed_arith, c.to_unix_epoch_day.ensures.bound) in
    rw c.ok-2.ensures.value
    (counted_small c.try_from.result day c.to_unix_epoch_day.ensures.bound.1 fits c.try_from.ensures)

pub returns-clause-refused : goal.returns-clause-refused
returns-clause-refused c =
    let text = c.args.text.now in
    let date = c.in_ok-date.date in
    let day = c.to_unix_epoch_day.result in
    let small : IsSmallDate c.in_ok-year.year c.in_ok-month.month c.in_ok-day.day = record {
      year = c.in_ok-year.ensures.small;
      month = c.in_ok-month.ensures.small;
      day = c.in_ok-day.ensures.small;
    } in
    let parts = date_parts _ _ _ date small
    (read_ok c.new.result date _ c.in_ok-date.ensures.value c.new.ensures.value) in
    let fits : FitsSigned w32 day = omega (arith, signed_arith, c.to_unix_epoch_day.ensures.bound) in
    let count = rw (parts.0, parts.1, parts.2) at c.to_unix_epoch_day.ensures.value in
    rw c.ok-2.ensures.value (none_counted c.try_from.result day (HasDate text) c.to_unix_epoch_day.ensures.bound.1 fits
    c.try_from.ensures (λ days h. count ∙ rw (
      Writes-same h.year_digits c.in_ok-year.ensures.value,
      Writes-same h.month_digits c.in_ok-month.ensures.value,
      Writes-same h.day_digits c.in_ok-day.ensures.value,
    )
    at h.count))
