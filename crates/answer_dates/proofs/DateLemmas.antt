-- A time that is written with a year of four digits lies before the year 10000.
use Rattle.std.proofs.Common.{◌≡◌, ◌+◌, ◌*◌, ◌/◌, ◌^◌, ◌<◌, ◌≤◌, ◌≤ℤ◌, ℕ, ℤ, pos, List, length, sym, subst, inl, inr, arith}
use Rattle.std.proofs.lemmas.Int.Digits.{digits_value-lt}
use Rattle.jiff_core.specs.Calendar.{days_from_civil, IsEpochDay}
use Rattle.jiff_core.proofs.CalendarLemmas.{days_from_civil-day_count, day_count_bounds}
use Rattle.jiff_core.proofs.SignedLemmas.{signed_arith}
use Rattle.reply_values.specs.Times.{EndsTime, HasClock, HasDate, SpellsTime, WritesMicros}
use Rattle.reply_values.proofs.TimeLemmas.{micros_small}

days_small : (text : List ℕ) (days : ℕ) → HasDate text days → days ≤ 2_932_896
days_small text days h =
    let range : IsEpochDay (days_from_civil (pos h.year) h.month h.day) = omega (arith, signed_arith, days_from_civil-day_count, day_count_bounds _ _ _ h.valid) in
    let most : pos days ≤ℤ pos 2_932_896 = subst (λ (z : ℤ). z ≤ℤ pos 2_932_896) h.count range.1 in
    omega (arith, signed_arith, most)

seconds_small : (text : List ℕ) (seconds : ℕ) → HasClock text seconds → seconds < 86_400
seconds_small text seconds h = omega (arith, h.count, h.valid.0, h.valid.1, h.valid.2)

fraction_small : (fraction : List ℕ) (micros : ℕ) → WritesMicros fraction micros → micros < 10 ^ 6
fraction_small fraction micros h =
    let digits = digits_value-lt 10 fraction h.digits.digits.1 in
    let number : h.number < 10 ^ length fraction = subst (λ (n : ℕ). n < 10 ^ length fraction) h.digits.value digits in
    subst (λ (n : ℕ). n < 10 ^ 6) (sym h.value) (micros_small (length fraction) h.number number)

micros_few : (text : List ℕ) (micros : ℕ) → EndsTime text micros → micros < 10 ^ 6
micros_few text micros (inl h) = omega (arith, h.1)
micros_few text micros (inr (fraction, is, h)) = fraction_small fraction micros h

pub time_small : (text : List ℕ) (moment : ℕ) → SpellsTime text moment → moment < 253402300800000000
time_small text moment h =
    let days = days_small text h.days h.date in
    let seconds = seconds_small text h.seconds h.clock in
    let micros = micros_few _ h.micros h.end in
    omega (arith, days, seconds, micros, h.value)
