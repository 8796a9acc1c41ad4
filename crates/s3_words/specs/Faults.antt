-- The first fault of a command line.
use Rattle.std.specs.Prelude.{◌<◌, IfSome, ◌&&◌, ◌+◌, ◌++◌, ℕ, Bool, true, false, List, [], ◌∷◌, Option, Some, None}
use Rattle.std.specs.Prelude.{is_none, length, if◌then◌else◌}
use Rattle.std.specs.Option.{option_or}
use Rattle.s3_model.specs.declared.faults.WordFault.{WordFault}
use Rattle.s3_model.specs.declared.faults.WordFault.TheVariants.{NoCommand, UnknownCommand, UnknownOption, NoValue}
use Rattle.s3_model.specs.declared.faults.WordFault.TheVariants.{BadValue, PathCount, Pair, Twice, Endpoint, NoEndpoint}
use Rattle.s3_model.specs.declared.places.Place.{Place}
use Rattle.s3_words.specs.declared.commands.Verb.{Verb}
use Rattle.s3_words.specs.declared.options.OptionName.{OptionName}
use Rattle.s3_words.specs.declared.options.OptionName.TheVariants.{EndpointUrl, Recursive}
use Rattle.s3_words.specs.declared.roles.Expected.TheVariants.{Anything}
use Rattle.s3_words.specs.Options.{is_single, kind_of, takes_option, takes_value, verb_named}
use Rattle.s3_words.specs.Places.{is_pair, is_path, is_right_count, places_in, wanted}
use Rattle.s3_words.specs.Roles.{Role, Path, Unknown, Named, Assigned, Value, roles}
use Rattle.s3_words.specs.Values.{bad_unless, value_fault}
use Rattle.s3_words.specs.Given.{is_given, value_of}

abbrev pub name_fault : Verb → ℕ → OptionName → Option WordFault
name_fault verb at option = if takes_option verb option then None else Some (UnknownOption at)

-- the option stands among the words before
abbrev pub twice_fault : ℕ → List Role → OptionName → Option WordFault
twice_fault at before option = if is_single (kind_of option) && is_given option before then Some (Twice at) else None

abbrev pub missing_fault : ℕ → Bool → OptionName → Option WordFault
missing_fault at last option = if takes_value (kind_of option) && last then Some (NoValue at) else None

-- What is wrong with an option: its name, then that it stands twice, then that its value is missing. `before` are the
-- words between the command and this one, and `last` says that no word follows.
abbrev pub option_fault : Verb → ℕ → List Role → Bool → Role → Option WordFault
option_fault verb at before last Unknown = Some (UnknownOption at)
option_fault verb at before last (Named option) =
    option_or (name_fault verb at option) (option_or (twice_fault at before option) (missing_fault at last option))
option_fault verb at before last (Assigned option text) =
    option_or (name_fault verb at option) (twice_fault at before option)
option_fault verb at before last role = None

-- what is wrong with a value or a path
abbrev pub text_fault : ℕ → Role → Option WordFault
text_fault at (Assigned option text) = value_fault (kind_of option) at text
text_fault at (Value option text) = value_fault (kind_of option) at text
text_fault at (Path text) = bad_unless (is_path text) at
text_fault at role = None

abbrev pub role_fault : Verb → ℕ → List Role → Bool → Role → Option WordFault
role_fault verb at before last role = option_or (option_fault verb at before last role) (text_fault at role)

abbrev pub no_more : List Role → Bool
no_more [] = true
no_more (role ∷ roles) = false

-- the fault of the first word that has one, where these words stand from this index on, behind `before`
abbrev pub first_fault : Verb → ℕ → List Role → List Role → Option WordFault
first_fault verb at before [] = None
first_fault verb at before (role ∷ roles) =
    option_or (role_fault verb at before (no_more roles) role) (first_fault verb (at + 1) (before ++ role ∷ []) roles)

abbrev pub count_fault : Verb → List Place → Option WordFault
count_fault verb places =
    if is_right_count verb (length places) then None else Some (PathCount (length places) (wanted verb))

abbrev pub pair_fault : Verb → Bool → List Place → Option WordFault
pair_fault verb recursive places = if is_pair verb recursive places then None else Some Pair

abbrev pub endpoint_missing : List Role → Option WordFault
endpoint_missing roles = if is_none (value_of EndpointUrl roles) then Some NoEndpoint else None

-- what is wrong with the words as a whole
abbrev pub whole_fault : Verb → List Role → Option WordFault
whole_fault verb roles =
    option_or (count_fault verb (places_in roles))
    (option_or (pair_fault verb (is_given Recursive roles) (places_in roles)) (endpoint_missing roles))

abbrev pub command_fault : Option Verb → List (List ℕ) → Option WordFault
command_fault None words = Some (UnknownCommand 0)
command_fault (Some verb) words =
    option_or (first_fault verb 1 [] (roles Anything words)) (whole_fault verb (roles Anything words))

-- the first fault of a command line, if it has one
abbrev pub word_fault : List (List ℕ) → Option WordFault
word_fault [] = Some NoCommand
word_fault (word ∷ words) = command_fault (verb_named word) words

-- the index that a fault names
abbrev pub fault_place : WordFault → Option ℕ
fault_place (UnknownCommand at) = Some at
fault_place (UnknownOption at) = Some at
fault_place (NoValue at) = Some at
fault_place (BadValue at) = Some at
fault_place (Twice at) = Some at
fault_place (Endpoint at fault) = Some at
fault_place fault = None

-- the index is that of one of so many words
abbrev pub IsPlaced : ℕ → WordFault → Type 0
IsPlaced count fault = IfSome (fault_place fault) (λ at. at < count)
