-- The rows of `ls`, as the AWS CLI prints them, with times in UTC.
use Rattle.std.specs.Prelude.{◌≡◌, ◌-◌, ◌/◌, ◌%◌, ◌^◌, ◌++◌, ℕ, pos, List, codes, decimal, length, replicate}
use Rattle.jiff_core.specs.Calendar.{IsCivilDate, days_from_civil}
use Rattle.s3_model.specs.declared.places.Entry.{Entry}

-- a text right in so many places, with this byte before it; a longer text takes its own width
abbrev pub right_in : (places fill : ℕ) → List ℕ → List ℕ
right_in places fill text = replicate (places - length text) fill ++ text

-- a number in so many digits, with zeros before it
abbrev pub in_digits : (places n : ℕ) → List ℕ
in_digits places n = right_in places 48 (decimal n)

-- YYYY-MM-DD
abbrev pub date_text : (year month day : ℕ) → List ℕ
date_text year month day = in_digits 4 year ++ codes "-" ++ in_digits 2 month ++ codes "-" ++ in_digits 2 day

-- HH:MM:SS of the seconds since midnight
abbrev pub clock_text : ℕ → List ℕ
clock_text seconds =
    in_digits 2 (seconds / 3600) ++ codes ":" ++ in_digits 2 (seconds / 60 % 60) ++ codes ":"
    ++ in_digits 2 (seconds % 60)

-- The row begins with YYYY-MM-DD HH:MM:SS of a moment, in microseconds since 1970-01-01T00:00:00Z, and goes on with
-- `rest`: the day of the proleptic Gregorian calendar that is so many days after 1 January 1970, and the time of that
-- day.
pub record IsTimed (micros : ℕ) (rest row : List ℕ) : Type 0 where
  pub year : ℕ
  pub month : ℕ
  pub day : ℕ
  pub valid : IsCivilDate (pos year) month day
  pub days : days_from_civil (pos year) month day ≡ pos (micros / 10 ^ 6 / 86400)
  pub spells : row ≡ date_text year month day ++ codes " " ++ clock_text (micros / 10 ^ 6 % 86400) ++ rest

-- the row of an object: its time, its size right in 10 places and its name
abbrev pub IsRow : Entry → (name : List ℕ) → List ℕ → Type 0
IsRow entry name row =
    IsTimed entry.micros (codes " " ++ right_in 10 32 (decimal entry.size) ++ codes " " ++ name ++ codes "\n") row

-- the row of a prefix: `PRE` right in 30 places, and its name
abbrev pub prefix_row : List ℕ → List ℕ
prefix_row name = right_in 30 32 (codes "PRE") ++ codes " " ++ name ++ codes "\n"

-- the row of a bucket: the time when it was made, and its name
abbrev pub IsBucketRow : Entry → List ℕ → Type 0
IsBucketRow entry row = IsTimed entry.micros (codes " " ++ entry.key ++ codes "\n") row
