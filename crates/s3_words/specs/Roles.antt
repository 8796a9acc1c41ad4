-- What each word behind the command is: an option, the value of one, or a path.
use Rattle.std.specs.Prelude.{◌&&◌, ◌==◌, ℕ, Bool, true, false, not, List, [], ◌∷◌, Option, Some, None, codes, nat_eq}
use Rattle.std.specs.Prelude.{if◌then◌else◌}
use Rattle.std.specs.List.{list_any, starts_with, before_first, after_first}
use Rattle.std.specs.Str.{bytes_eq}
use Rattle.s3_words.specs.declared.options.OptionName.{OptionName}
use Rattle.s3_words.specs.declared.roles.Expected.{Expected}
use Rattle.s3_words.specs.declared.roles.Expected.TheVariants.{Anything, ValueOf, Paths}
use Rattle.s3_words.specs.Options.{kind_of, option_named, takes_value}

pub data Role : Type 0 where
  -- the word `--`, behind which every word is a path
  Separator : Role
  Path : List ℕ → Role
  -- an option that is in no row of the table
  Unknown : Role
  -- an option alone
  Named : OptionName → Role
  -- an option, `=` and a value
  Assigned : OptionName → List ℕ → Role
  -- the value of the option in front of it
  Value : OptionName → List ℕ → Role

abbrev pub is_equals : ℕ → Bool
is_equals byte = byte == 61

-- an option's word up to its first `=`
abbrev pub name_in : List ℕ → List ℕ
name_in word = before_first is_equals word

abbrev pub option_role : Option OptionName → List ℕ → Role
option_role None word = Unknown
option_role (Some option) word =
    if list_any is_equals word then Assigned option (after_first is_equals word) else Named option

-- a word that begins with `-`, but for `-` alone, which is a path
abbrev pub is_dashed : List ℕ → Bool
is_dashed word = starts_with nat_eq word (codes "-") && not (bytes_eq word (codes "-"))

-- A word is the value of an option in front that takes one, whatever it begins with, and a path behind `--`.
abbrev pub role_of : Expected → List ℕ → Role
role_of (ValueOf option) word = Value option word
role_of Paths word = Path word
role_of Anything word =
    if bytes_eq word (codes "--") then Separator
    else if is_dashed word then option_role (option_named (name_in word)) word
    else Path word

abbrev pub behind_option : Bool → OptionName → Expected
behind_option true option = ValueOf option
behind_option false option = Anything

-- what is expected behind a word
abbrev pub next : Expected → Role → Expected
next Paths role = Paths
next expected Separator = Paths
next expected (Named option) = behind_option (takes_value (kind_of option)) option
next expected role = Anything

abbrev pub roles : Expected → List (List ℕ) → List Role
roles expected [] = []
roles expected (word ∷ words) = role_of expected word ∷ roles (next expected (role_of expected word)) words
