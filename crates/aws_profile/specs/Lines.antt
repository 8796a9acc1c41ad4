-- The lines of a settings file, and of what kind each is (AWS CLI User Guide, "Configuration and credential file
-- settings").
-- The lines themselves are std's `lines`: each ends with LF or CR LF, and what stands behind the last LF is one unless
-- it is empty.
use Rattle.std.specs.Prelude.{◌-◌, ◌==◌, ◌||◌, ◌&&◌, ℕ, Bool, not, List, Option, Some, None, length, take, drop}
use Rattle.std.specs.Prelude.{slice_index, nat_lt, if◌then◌else◌}
use Rattle.std.specs.List.{list_any, list_all, before_first, after_first, position_or_len, suffix_len}
use Rattle.std.specs.Str.{is_utf8}

-- a space or a tab
abbrev pub is_blank : ℕ → Bool
is_blank byte = byte == 32 || byte == 9

-- `#` or `;`
abbrev pub is_comment_mark : ℕ → Bool
is_comment_mark byte = byte == 35 || byte == 59

abbrev pub is_equals : ℕ → Bool
is_equals byte = byte == 61

abbrev pub is_closing : ℕ → Bool
is_closing byte = byte == 93

abbrev pub opening : ℕ
opening = 91

-- a text without the spaces and tabs in front of it, and without those behind it
abbrev pub without_leading : List ℕ → List ℕ
without_leading text = drop (position_or_len (λ byte. not (is_blank byte)) text) text

abbrev pub without_trailing : List ℕ → List ℕ
without_trailing text = take (length text - suffix_len is_blank text) text

abbrev pub trimmed : List ℕ → List ℕ
trimmed text = without_trailing (without_leading text)

pub record Assignment : Type 0 where
  pub name : List ℕ
  pub value : List ℕ

-- `name = value`: the first `=` parts them, and the name has at least one byte
abbrev pub assignment : List ℕ → Option Assignment
assignment text =
    if list_any is_equals text && nat_lt 0 (length (trimmed (before_first is_equals text)))
    then Some (record { name = trimmed (before_first is_equals text); value = trimmed (after_first is_equals text) })
    else None

pub data LineKind : Type 0 where
  Skipped : LineKind
  Section : List ℕ → LineKind
  Setting : Assignment → LineKind
  Indented : List ℕ → LineKind
  Bad : LineKind

-- what follows the `[` of a section line: a name of at least one byte, and then `]` alone
abbrev pub section_line : List ℕ → LineKind
section_line text =
    if list_any is_closing text && nat_lt 0 (length (before_first is_closing text))
    && length (after_first is_closing text) == 0
    then Section (before_first is_closing text) else Bad

abbrev pub setting_line : Option Assignment → LineKind
setting_line None = Bad
setting_line (Some assigned) = Setting assigned

-- the kind of a line that is text, by its first byte
abbrev pub kind_by : ℕ → List ℕ → LineKind
kind_by first line =
    if is_comment_mark first then Skipped
    else if first == opening then section_line (drop 1 line)
    else if is_blank first then Indented line
    else setting_line (assignment line)

-- A line of spaces and tabs, and a comment, are skipped. A line that begins with `[` is a section's or bad, one that
-- begins with a space or a tab is indented, and every other is `name = value` or bad.
abbrev pub kind_of : List ℕ → LineKind
kind_of line =
    if not (is_utf8 line) then Bad
    else if list_all is_blank line then Skipped
    else kind_by (slice_index line 0) line
