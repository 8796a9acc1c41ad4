-- The options of the `s3` commands (AWS CLI Command Reference, `s3`): the name of each, the value that it takes, and
-- the commands that take it.
use Rattle.std.specs.Prelude.{ℕ, Bool, true, false, List, [], ◌∷◌, ◌++◌, Option, codes, find}
use Rattle.std.specs.Str.{bytes_eq}
use denote.Enum.Bare.{sameb}
use Rattle.s3_words.specs.contracts.options.OptionName.{the_type}
use Rattle.s3_words.specs.declared.commands.Verb.{Verb}
use Rattle.s3_words.specs.declared.commands.Verb.TheVariants.{Cp, Mv, Sync, Rm, Ls, Presign}
use Rattle.s3_words.specs.declared.options.OptionName.{OptionName}
use Rattle.s3_words.specs.declared.options.OptionName.TheVariants.{EndpointUrl, Region, Profile, Recursive, Exclude}
use Rattle.s3_words.specs.declared.options.OptionName.TheVariants.{Include, Dryrun, Quiet, OnlyShowErrors, SizeOnly}
use Rattle.s3_words.specs.declared.options.OptionName.TheVariants.{ExactTimestamps, Delete, ContentType}
use Rattle.s3_words.specs.declared.options.OptionName.TheVariants.{NoGuessMimeType, NoProgress, ExpiresIn}
use Rattle.s3_words.specs.declared.options.ValueKind.{ValueKind}
use Rattle.s3_words.specs.declared.options.ValueKind.TheVariants.{NoValue, Url, RegionName, ProfileName, Pattern}
use Rattle.s3_words.specs.declared.options.ValueKind.TheVariants.{MediaType, Seconds}

abbrev pub verb_name : Verb → List ℕ
verb_name Cp = codes "cp"
verb_name Mv = codes "mv"
verb_name Sync = codes "sync"
verb_name Rm = codes "rm"
verb_name Ls = codes "ls"
verb_name Presign = codes "presign"

abbrev pub verb_named : List ℕ → Option Verb
verb_named name = find (λ verb. bytes_eq name (verb_name verb)) (Cp ∷ Mv ∷ Sync ∷ Rm ∷ Ls ∷ Presign ∷ [])

abbrev pub every_command : Verb → Bool
every_command verb = true

-- cp, mv and sync
abbrev pub transfers : Verb → Bool
transfers Cp = true
transfers Mv = true
transfers Sync = true
transfers verb = false

-- those and rm
abbrev pub changes : Verb → Bool
changes Rm = true
changes verb = transfers verb

abbrev pub recurses : Verb → Bool
recurses Cp = true
recurses Mv = true
recurses Rm = true
recurses Ls = true
recurses verb = false

abbrev pub is_sync : Verb → Bool
is_sync Sync = true
is_sync verb = false

abbrev pub is_copy : Verb → Bool
is_copy Cp = true
is_copy verb = false

abbrev pub is_listing : Verb → Bool
is_listing Ls = true
is_listing verb = false

abbrev pub is_presign : Verb → Bool
is_presign Presign = true
is_presign verb = false

-- one row of the table
pub record Row : Type 0 where
  pub name : List ℕ
  pub value : ValueKind
  pub commands : Verb → Bool

abbrev pub row : List ℕ → ValueKind → (Verb → Bool) → Row
row name value commands = record { name = name; value = value; commands = commands }

abbrev pub row_of : OptionName → Row
row_of EndpointUrl = row (codes "--endpoint-url") Url every_command
row_of Region = row (codes "--region") RegionName every_command
row_of Profile = row (codes "--profile") ProfileName every_command
row_of Recursive = row (codes "--recursive") NoValue recurses
row_of Exclude = row (codes "--exclude") Pattern changes
row_of Include = row (codes "--include") Pattern changes
row_of Dryrun = row (codes "--dryrun") NoValue changes
row_of Quiet = row (codes "--quiet") NoValue changes
row_of OnlyShowErrors = row (codes "--only-show-errors") NoValue changes
row_of SizeOnly = row (codes "--size-only") NoValue is_sync
row_of ExactTimestamps = row (codes "--exact-timestamps") NoValue is_sync
row_of Delete = row (codes "--delete") NoValue is_sync
row_of ContentType = row (codes "--content-type") MediaType transfers
row_of NoGuessMimeType = row (codes "--no-guess-mime-type") NoValue transfers
row_of NoProgress = row (codes "--no-progress") NoValue transfers
row_of ExpiresIn = row (codes "--expires-in") Seconds is_presign

-- the first of these that has the name
abbrev pub named_in : List OptionName → List ℕ → Option OptionName
named_in among name = find (λ option. bytes_eq name (row_of option).name) among

-- those that `rm` takes
abbrev pub common_options : List OptionName
common_options =
    EndpointUrl ∷ Region ∷ Profile ∷ Recursive ∷ Exclude ∷ Include ∷ Dryrun ∷ Quiet ∷ OnlyShowErrors ∷ []

-- those that it does not
abbrev pub special_options : List OptionName
special_options =
    SizeOnly ∷ ExactTimestamps ∷ Delete ∷ ContentType ∷ NoGuessMimeType ∷ NoProgress ∷ ExpiresIn ∷ []

abbrev pub options : List OptionName
options = common_options ++ special_options

abbrev pub option_named : List ℕ → Option OptionName
option_named name = named_in options name

-- the two are one option
abbrev pub same_option : OptionName → OptionName → Bool
same_option option other = sameb the_type option other

abbrev pub kind_of : OptionName → ValueKind
kind_of option = (row_of option).value

abbrev pub takes_option : Verb → OptionName → Bool
takes_option verb option = (row_of option).commands verb

abbrev pub takes_value : ValueKind → Bool
takes_value NoValue = false
takes_value kind = true

-- an option with a value may be given once, but for `--exclude` and `--include`
abbrev pub is_single : ValueKind → Bool
is_single NoValue = false
is_single Pattern = false
is_single kind = true
