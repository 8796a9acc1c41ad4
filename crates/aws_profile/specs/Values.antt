-- What the values of settings stand for: texts of visible ASCII, counts and sizes.
use Rattle.std.specs.Prelude.{◌*◌, ◌^◌, ◌==◌, ◌&&◌, ◌||◌, ℕ, Bool, not, List, Option, Some, None, length, drop, codes}
use Rattle.std.specs.Prelude.{nat_lt, nat_le, unwrap_or, option_and_then, if◌then◌else◌}
use Rattle.std.specs.Char.{is_ascii_digit}
use Rattle.std.specs.List.{list_all, before_first, position_or_len}
use Rattle.std.specs.Str.{str_eq_ignore_ascii_case}
use Rattle.std.specs.Str.Parse.{digits_value}
use Rattle.aws_profile.specs.declared.amounts.Unit.{Unit}
use Rattle.aws_profile.specs.declared.amounts.Unit.TheVariants as unit
use Rattle.aws_profile.specs.Sections.{Value}

abbrev pub is_visible_byte : ℕ → Bool
is_visible_byte byte = nat_le 33 byte && nat_le byte 126

-- visible ASCII characters, at least one
abbrev pub is_visible : List ℕ → Bool
is_visible text = not (length text == 0) && list_all is_visible_byte text

-- a text of another form counts as not found
abbrev pub usable : Option (List ℕ) → Option (List ℕ)
usable None = None
usable (Some text) = if is_visible text then Some text else None

-- decimal digits, at least one
abbrev pub is_digits : List ℕ → Bool
is_digits text = nat_lt 0 (length text) && list_all is_ascii_digit text

abbrev pub number : List ℕ → Option ℕ
number text = if is_digits text then Some (digits_value 10 text) else None

-- a number that 64 bits hold
abbrev pub fitting : Option ℕ → Option ℕ
fitting None = None
fitting (Some n) = if nat_lt n (2 ^ 64) then Some n else None

abbrev pub is_other : ℕ → Bool
is_other byte = not (is_ascii_digit byte)

-- the digits in front, and what follows them
abbrev pub digits_in : List ℕ → List ℕ
digits_in text = before_first is_other text

abbrev pub unit_in : List ℕ → List ℕ
unit_in text = drop (position_or_len is_other text) text

abbrev pub is_unit : List ℕ → List ℕ → List ℕ → Bool
is_unit text short long = str_eq_ignore_ascii_case text short || str_eq_ignore_ascii_case text long

-- how many bytes a unit stands for, in any case of its letters: powers of 1,024
abbrev pub factor_of : List ℕ → Option ℕ
factor_of text =
    if length text == 0 then Some 1
    else if is_unit text (codes "KB") (codes "KiB") then Some (2 ^ 10)
    else if is_unit text (codes "MB") (codes "MiB") then Some (2 ^ 20)
    else if is_unit text (codes "GB") (codes "GiB") then Some (2 ^ 30)
    else None

abbrev pub scaled : Option ℕ → Option ℕ → Option ℕ
scaled (Some n) (Some factor) = Some (n * factor)
scaled n factor = None

-- a number, and nothing or a unit directly behind
abbrev pub size : List ℕ → Option ℕ
size text = scaled (number (digits_in text)) (factor_of (unit_in text))

abbrev pub within : ℕ → ℕ → Option ℕ
within most n = if nat_le 1 n && nat_le n most then Some n else None

abbrev pub count_or_size : Unit → List ℕ → Option ℕ
count_or_size unit.Count text = number text
count_or_size unit.Bytes text = size text

-- an amount of 1 to a greatest one
abbrev pub amount : Unit → ℕ → List ℕ → Option ℕ
amount measure most text = option_and_then (within most) (count_or_size measure text)

-- the amount of a setting, or the default where it is absent
abbrev pub amount_or : ℕ → Unit → ℕ → Option Value → ℕ
amount_or default measure most None = default
amount_or default measure most (Some value) = unwrap_or (amount measure most value.text) default
