-- The days of the calendar, counted from 1 January 1970, have the day numbers of the calendar library.
use Rattle.std.proofs.Common.{◌≡◌, ◌+◌, ◌<◌, ◌≤◌, ◌∙◌, ◌+ℤ◌, ◌<ℤ◌, ℕ, ℤ, zero, suc, pos, sym, refl, ⊎_elim, arith, rules}
use Rattle.std.proofs.lemmas.Bool.{cases_lt}
use Rattle.std.proofs.lemmas.Bool.Decides.{nat_tests}
use Rattle.std.proofs.lemmas.Int.{by_lt_z}
use Rattle.jiff_core.specs.declared.civil.date.Date.{Date}
use Rattle.jiff_core.specs.Calendar.{days_in_month, days_from_civil, IsCivilDate}
use Rattle.jiff_core.specs.Date.{epoch_day}
use Rattle.jiff_core.proofs.SignedLemmas.{signed_arith}
use Rattle.jiff_core.proofs.DateLemmas.{epoch_day_injective, days_from_civil-day, days_from_civil-next_month, days_from_civil-next_year, days_from_civil-max}
use Rattle.jiff_core.proofs.CalendarLemmas.{days_in_month_bounds}
use Rattle.s3_model.specs.CivilTimes.{Day, day_after, civil_day}

-- a day that the calendar has, with its day number
pub record IsNumbered (d : Day) (n : ℕ) : Type 0 where
  pub valid : IsCivilDate (pos d.year) d.month d.day
  pub number : days_from_civil (pos d.year) d.month d.day ≡ pos n

same_month : (d : Day) → d.day < days_in_month (pos d.year) d.month → day_after d ≡ record { year = d.year; month = d.month; day = d.day + 1 }
same_month d h = grind (arith, nat_tests)

next_month : (d : Day) → days_in_month (pos d.year) d.month ≤ d.day → d.month < 12 → day_after d ≡ record { year = d.year; month = d.month + 1; day = 1 }
next_month d h k = grind (arith, nat_tests)

next_year : (d : Day) → days_in_month (pos d.year) d.month ≤ d.day → 12 ≤ d.month → day_after d ≡ record { year = d.year + 1; month = 1; day = 1 }
next_year d h k = grind (arith, nat_tests)

december : (y : ℤ) (m : ℕ) → m ≡ 12 → days_in_month y m ≡ 31
december y m e = rw e refl

first_day : IsNumbered (record { year = 1970; month = 1; day = 1 }) 0
unfolding days_from_civil
first_day = record { valid = search rules; number = omega (arith, signed_arith) }

in_month : (d : Day) (n : ℕ) → IsNumbered d n → d.day < days_in_month (pos d.year) d.month → IsNumbered (day_after d) (suc n)
in_month d n h inside = rw (same_month d inside) (record {
  valid = (h.valid.0, h.valid.1, (omega arith, omega arith));
  number = omega (arith, signed_arith, days_from_civil-day (pos d.year) d.month d.day (d.day + 1) h.valid.2.0 (omega arith));
})

after_month : (d : Day) (n : ℕ) → IsNumbered d n → days_in_month (pos d.year) d.month ≤ d.day → d.month < 12 → IsNumbered (day_after d) (suc n)
after_month d n h last month =
    let days : d.day ≡ days_in_month (pos d.year) d.month = omega arith in
    rw (next_month d last month) (record {
      valid = (h.valid.0, (omega arith, omega arith), (omega arith, omega (arith, days_in_month_bounds (pos d.year) (d.month + 1))));
      number = omega (arith, signed_arith, days_from_civil-next_month (pos d.year) d.month d.day h.valid.1.0 days);
    })

after_year : (d : Day) (n : ℕ) → IsNumbered d n → n < 2932896 → days_in_month (pos d.year) d.month ≤ d.day → 12 ≤ d.month → IsNumbered (day_after d) (suc n)
after_year d n h low last month =
    let twelve : d.month ≡ 12 = omega arith in
    let last_day : d.day ≡ 31 = omega (arith, h.valid.2, december (pos d.year) d.month twelve) in
    let here : days_from_civil (pos d.year) 12 31 ≡ pos n = rw (twelve, last_day) at h.number in
    let before : pos d.year <ℤ pos 9999 = by_lt_z (pos d.year) (pos 9999) (λ lt. lt) (λ le.
    let same : d.year ≡ 9999 = omega (arith, signed_arith, h.valid.0) in
    absurd (omega (arith, signed_arith, days_from_civil-max, rw same at here))) in
    rw (next_year d last month) (record {
      valid = (omega (arith, signed_arith), (omega arith, omega arith), (omega arith, omega (arith, days_in_month_bounds (pos (d.year + 1)) 1)));
      number = omega (arith, signed_arith, days_from_civil-next_year (pos d.year) (pos (d.year + 1)) (omega (arith, signed_arith)) (omega (arith, signed_arith)));
    })

pub civil_day-IsNumbered : (n : ℕ) → n ≤ 2932896 → IsNumbered (civil_day n) n
unfolding civil_day
civil_day-IsNumbered zero h = first_day
civil_day-IsNumbered (suc n) h =
    let before = civil_day-IsNumbered n (omega arith) in
    let d = civil_day n in
    ⊎_elim (λ inside. in_month d n before inside)
    (λ last. ⊎_elim (λ month. after_month d n before last month) (λ month. after_year d n before (omega arith) last month) (cases_lt d.month 12))
    (cases_lt d.day (days_in_month (pos d.year) d.month))

-- a date of the calendar library is the day of its number
pub date_parts : (date : Date) (n : ℕ) → n ≤ 2932896 → epoch_day date +ℤ pos 4371587 ≡ pos (4371587 + n) → (date.year ≡ pos (civil_day n).year) × (date.month ≡ (civil_day n).month) × (date.day ≡ (civil_day n).day)
date_parts date n h e =
    let day = civil_day-IsNumbered n h in
    let own : Date = record { year = pos (civil_day n).year; month = (civil_day n).month; day = (civil_day n).day; year_in = day.valid.0; month_in = day.valid.1; day_in = day.valid.2 } in
    let here : epoch_day date ≡ pos n = omega (arith, signed_arith) in
    epoch_day_injective date own (here ∙ sym day.number)
