-- What the lines of a settings file say, each by the section and the setting above it.
use Rattle.std.specs.Prelude.{◌&&◌, ◌+◌, ℕ, Bool, true, false, List, [], ◌∷◌, Option, Some, None, option_map, codes}
use Rattle.std.specs.Prelude.{if◌then◌else◌}
use Rattle.std.specs.List.{list_any, filter_map}
use Rattle.std.specs.Option.{option_or}
use Rattle.std.specs.Str.{bytes_eq}
use Rattle.std.specs.Str.Lines.{lines}
use Rattle.aws_profile.specs.declared.slots.Place.{Place}
use Rattle.aws_profile.specs.declared.slots.Place.TheVariants as place
use Rattle.aws_profile.specs.Lines.{Assignment, assignment, LineKind, Skipped, Section, Setting, Indented, Bad, kind_of}

-- the names of the section and of the setting that stand above a line, where there are such
pub record Above : Type 0 where
  pub section : Option (List ℕ)
  pub parent : Option (List ℕ)

abbrev pub nothing_above : Above
nothing_above = record { section = None; parent = None }

-- what stands above the line behind one of this kind
abbrev pub above_next : Above → LineKind → Above
above_next above (Section name) = record { section = Some name; parent = None }
above_next above (Setting assigned) = record { section = above.section; parent = Some assigned.name }
above_next above other = above

-- one setting of a file: its line, counted from 1, where it stands, and what it says
pub record Stated : Type 0 where
  pub line : ℕ
  pub section : List ℕ
  pub place : Place
  pub name : List ℕ
  pub value : List ℕ

pub data Reading : Type 0 where
  Nothing : Reading
  Wrong : Reading
  States : Stated → Reading

abbrev pub states : ℕ → List ℕ → Place → Assignment → Reading
states line section place assigned =
    States (record { line = line; section = section; place = place; name = assigned.name; value = assigned.value })

-- a setting before the first section is wrong
abbrev pub reading_of_setting : ℕ → Option (List ℕ) → Assignment → Reading
reading_of_setting line None assigned = Wrong
reading_of_setting line (Some section) assigned = states line section place.Section assigned

-- under `s3` an indented line has to be a setting
abbrev pub reading_of_nested : ℕ → List ℕ → Option Assignment → Reading
reading_of_nested line section None = Wrong
reading_of_nested line section (Some assigned) = states line section place.S3 assigned

-- an indented line is wrong where no setting stands above it in its section, and says nothing under another setting
-- than `s3`
abbrev pub reading_of_indented : ℕ → Option (List ℕ) → Option (List ℕ) → List ℕ → Reading
reading_of_indented line (Some section) (Some parent) text =
    if bytes_eq parent (codes "s3") then reading_of_nested line section (assignment text) else Nothing
reading_of_indented line section parent text = Wrong

abbrev pub reading_of : ℕ → Above → LineKind → Reading
reading_of line above Skipped = Nothing
reading_of line above (Section name) = Nothing
reading_of line above (Setting assigned) = reading_of_setting line above.section assigned
reading_of line above (Indented text) = reading_of_indented line above.section above.parent text
reading_of line above Bad = Wrong

-- what each line says, where these lines are counted from a number and stand below this
abbrev pub readings_from : ℕ → Above → List (List ℕ) → List Reading
readings_from line above [] = []
readings_from line above (text ∷ texts) =
    reading_of line above (kind_of text) ∷ readings_from (line + 1) (above_next above (kind_of text)) texts

abbrev pub readings : List ℕ → List Reading
readings file = readings_from 1 nothing_above (lines file)

abbrev pub is_wrong : Reading → Bool
is_wrong Wrong = true
is_wrong other = false

-- the number of the first line that is wrong, where the lines are counted from this
abbrev pub first_wrong : ℕ → List Reading → Option ℕ
first_wrong line [] = None
first_wrong line (reading ∷ found) = if is_wrong reading then Some line else first_wrong (line + 1) found

abbrev pub bad_line : List ℕ → Option ℕ
bad_line file = first_wrong 1 (readings file)

abbrev pub is_section_line : List ℕ → LineKind → Bool
is_section_line name (Section other) = bytes_eq other name
is_section_line name other = false

-- some line begins this section
abbrev pub has_section : List ℕ → List (List ℕ) → Bool
has_section name texts = list_any (λ text. is_section_line name (kind_of text)) texts

abbrev pub stated_by : Reading → Option Stated
stated_by (States stated) = Some stated
stated_by other = None

-- the settings of a file, in its order
abbrev pub stated_in : List Reading → List Stated
stated_in found = filter_map stated_by found

abbrev pub same_place : Place → Place → Bool
same_place place.Section place.Section = true
same_place place.S3 place.S3 = true
same_place other another = false

abbrev pub is_stated : List ℕ → Place → List ℕ → Stated → Bool
is_stated section place name stated =
    bytes_eq stated.section section && same_place stated.place place && bytes_eq stated.name name

-- the last that passes a test
abbrev pub last_that : {X : Type 0} → (X → Bool) → List X → Option X
last_that test [] = None
last_that test (x ∷ xs) = option_or (last_that test xs) (if test x then Some x else None)

-- a value with its line
pub record Value : Type 0 where
  pub line : ℕ
  pub text : List ℕ

abbrev pub value_of : Stated → Value
value_of stated = record { line = stated.line; text = stated.value }

-- the value of a name in a section: the last that is stated
abbrev pub value_in : List Reading → List ℕ → Place → List ℕ → Option Value
value_in found section place name = option_map value_of (last_that (is_stated section place name) (stated_in found))
