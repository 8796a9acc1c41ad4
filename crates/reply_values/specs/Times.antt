-- Times in UTC as `YYYY-MM-DDTHH:MM:SSZ`, which may have a fraction of a second (ISO 8601), on the proleptic Gregorian
-- calendar.
use Rattle.std.specs.Prelude.{◌≡◌, ◌≤◌, ◌+◌, ◌*◌, ◌/◌, ◌^◌, ◌⊎◌, ◌++◌, ◌∷◌, ℕ, List, [], pos, length, drop, map}
use Rattle.std.specs.Prelude.{slice_index, slice_range, codes}
use Rattle.jiff_core.specs.Calendar.{IsCivilDate, days_from_civil}
use Rattle.reply_values.specs.Numbers.{Writes}

-- YYYY-MM-DD at the front names a day of the calendar, so many days after 1 January 1970
pub record HasDate (text : List ℕ) (days : ℕ) : Type 0 where
  pub year : ℕ
  pub month : ℕ
  pub day : ℕ
  pub year_digits : Writes 10 (slice_range text 0 4) year
  pub month_digits : Writes 10 (slice_range text 5 7) month
  pub day_digits : Writes 10 (slice_range text 8 10) day
  pub valid : IsCivilDate (pos year) month day
  pub count : days_from_civil (pos year) month day ≡ pos days

-- HH:MM:SS after it is a time of the day, so many seconds after midnight
pub record HasClock (text : List ℕ) (seconds : ℕ) : Type 0 where
  pub hour : ℕ
  pub minute : ℕ
  pub second : ℕ
  pub hour_digits : Writes 10 (slice_range text 11 13) hour
  pub minute_digits : Writes 10 (slice_range text 14 16) minute
  pub second_digits : Writes 10 (slice_range text 17 19) second
  pub valid : (hour ≤ 23) × (minute ≤ 59) × (second ≤ 59)
  pub count : seconds ≡ hour * 3600 + minute * 60 + second

-- one to nine digits of a fraction of a second are so many whole microseconds, cut down
pub record WritesMicros (fraction : List ℕ) (micros : ℕ) : Type 0 where
  pub number : ℕ
  pub digits : Writes 10 fraction number
  pub few : length fraction ≤ 9
  pub value : micros ≡ number * 10 ^ 6 / 10 ^ length fraction

-- what follows the seconds: `Z`, or a point, a fraction and `Z`
abbrev pub EndsTime : List ℕ → ℕ → Type 0
EndsTime text micros =
    ((text ≡ codes "Z") × (micros ≡ 0))
    ⊎ ((fraction : List ℕ) × (text ≡ codes "." ++ fraction ++ codes "Z") × WritesMicros fraction micros)

-- the text is a time, so many microseconds after 1970-01-01T00:00:00Z
pub record SpellsTime (text : List ℕ) (moment : ℕ) : Type 0 where
  pub days : ℕ
  pub seconds : ℕ
  pub micros : ℕ
  pub separators : map (λ place. slice_index text place) (4 ∷ 7 ∷ 10 ∷ 13 ∷ 16 ∷ []) ≡ codes "--T::"
  pub date : HasDate text days
  pub clock : HasClock text seconds
  pub end : EndsTime (drop 19 text) micros
  pub value : moment ≡ (days * 86400 + seconds) * 10 ^ 6 + micros
