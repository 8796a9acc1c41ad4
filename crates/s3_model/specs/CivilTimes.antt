-- The days of the proleptic Gregorian calendar from 1 January 1970 on (ISO 8601).
use Rattle.std.specs.Prelude.{◌+◌, ℕ, zero, suc, pos, nat_lt, if◌then◌else◌}
use Rattle.jiff_core.specs.Calendar.{days_in_month}

-- a day of the calendar
pub record Day : Type 0 where
  pub year : ℕ
  pub month : ℕ
  pub day : ℕ

-- the next day of the month, else the first of the next month, else the first of the next year
abbrev pub day_after : Day → Day
day_after d =
    if nat_lt d.day (days_in_month (pos d.year) d.month) then record { year = d.year; month = d.month; day = d.day + 1 }
    else if nat_lt d.month 12 then record { year = d.year; month = d.month + 1; day = 1 }
    else record { year = d.year + 1; month = 1; day = 1 }

-- the day that many days after 1 January 1970
unfoldable pub civil_day : ℕ → Day
civil_day zero = record { year = 1970; month = 1; day = 1 }
civil_day (suc n) = day_after (civil_day n)
