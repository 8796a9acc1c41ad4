-- The basic form of a moment in UTC (ISO 8601), on the proleptic Gregorian calendar.
use Rattle.std.specs.Prelude.{◌+◌, ◌/◌, ◌%◌, ◌++◌, ◌∷◌, ℕ, List, [], codes}
use Rattle.s3_model.specs.CivilTimes.{Day, civil_day}

-- the last digit of a number
abbrev pub digit : ℕ → List ℕ
digit n = (48 + n % 10) ∷ []

-- a number below 100 in two digits
abbrev pub two_digits : ℕ → List ℕ
two_digits n = digit (n / 10) ++ digit n

-- a number below 10,000 in four digits
abbrev pub four_digits : ℕ → List ℕ
four_digits n = two_digits (n / 100) ++ two_digits n

-- YYYYMMDD
unfoldable pub date_text : Day → List ℕ
date_text d = four_digits d.year ++ two_digits d.month ++ two_digits d.day

-- HHMMSS of the seconds since midnight
unfoldable pub time_text : ℕ → List ℕ
time_text seconds = two_digits (seconds / 3600) ++ two_digits (seconds / 60 % 60) ++ two_digits (seconds % 60)

-- the date of a moment, which is in seconds since 1970-01-01T00:00:00Z
abbrev pub basic_date : ℕ → List ℕ
basic_date moment = date_text (civil_day (moment / 86400))

-- YYYYMMDD'T'HHMMSS'Z' of a moment
abbrev pub basic_time : ℕ → List ℕ
basic_time moment = basic_date moment ++ codes "T" ++ time_text (moment % 86400) ++ codes "Z"
