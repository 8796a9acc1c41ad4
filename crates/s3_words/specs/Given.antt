-- What the words give: flags, values, filters and paths, in their order.
use Rattle.std.specs.Prelude.{ℕ, Bool, true, false, List, [], ◌∷◌, Option, Some, None, if◌then◌else◌}
use Rattle.std.specs.List.{list_any, filter_map}
use Rattle.std.specs.Option.{option_or}
use Rattle.s3_words.specs.declared.options.OptionName.{OptionName}
use Rattle.s3_words.specs.declared.options.OptionName.TheVariants.{Exclude, Include}
use Rattle.s3_words.specs.Options.{same_option}
use Rattle.s3_words.specs.Roles.{Role, Path, Named, Assigned, Value}

-- the word is this option, with or without `=`
abbrev pub is_option : OptionName → Role → Bool
is_option option (Named other) = same_option option other
is_option option (Assigned other text) = same_option option other
is_option option role = false

abbrev pub is_given : OptionName → List Role → Bool
is_given option roles = list_any (is_option option) roles

-- the value that a word gives an option
abbrev pub value_in : OptionName → Role → Option (List ℕ)
value_in option (Assigned other text) = if same_option option other then Some text else None
value_in option (Value other text) = if same_option option other then Some text else None
value_in option role = None

-- the last value of an option
abbrev pub value_of : OptionName → List Role → Option (List ℕ)
value_of option [] = None
value_of option (role ∷ roles) = option_or (value_of option roles) (value_in option role)

-- a pattern, and whether the paths that it matches are kept
pub record Given : Type 0 where
  pub keep : Bool
  pub pattern : List ℕ

abbrev pub filter_by : OptionName → List ℕ → Option Given
filter_by Exclude text = Some (record { keep = false; pattern = text })
filter_by Include text = Some (record { keep = true; pattern = text })
filter_by option text = None

abbrev pub filter_in : Role → Option Given
filter_in (Assigned option text) = filter_by option text
filter_in (Value option text) = filter_by option text
filter_in role = None

abbrev pub filters_in : List Role → List Given
filters_in roles = filter_map filter_in roles

abbrev pub path_in : Role → Option (List ℕ)
path_in (Path text) = Some text
path_in role = None

abbrev pub paths_in : List Role → List (List ℕ)
paths_in roles = filter_map path_in roles
