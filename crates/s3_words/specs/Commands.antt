-- What a command line without a fault asks for.
use Rattle.std.specs.Prelude.{◌≡◌, ⊤, ℕ, Bool, true, false, not, List, [], ◌∷◌, Option, Some, None}
use Rattle.std.specs.Option.{unwrap_or}
use Rattle.std.specs.Str.{chars}
use Rattle.s3_model.specs.Places.{IsObject}
use Rattle.s3_model.specs.declared.places.Place.{Place}
use Rattle.s3_model.specs.declared.tasks.Mode.{Mode}
use Rattle.s3_model.specs.declared.tasks.Times.{Times}
use Rattle.s3_model.specs.declared.tasks.Times.TheVariants.{Usual, SizeOnly, Exact}
use Rattle.path_filters.specs.declared.filters.Filter.{Filter}
use Rattle.path_filters.specs.Patterns.{IsPattern}
use Rattle.s3_words.specs.declared.commands.Command.{Command}
use Rattle.s3_words.specs.declared.commands.Verb.{Verb}
use Rattle.s3_words.specs.declared.options.OptionName.TheVariants as option
use Rattle.s3_words.specs.declared.roles.Expected.TheVariants.{Anything}
use Rattle.s3_words.specs.Endpoints.{IsEndpoint}
use Rattle.s3_words.specs.Options.{verb_named}
use Rattle.s3_words.specs.Roles.{Role, roles}
use Rattle.s3_words.specs.Given.{Given, filters_in, is_given, value_of}
use Rattle.s3_words.specs.Places.{places_in}
use Rattle.s3_words.specs.Values.{seconds}

abbrev pub first_of : List Place → Option Place
first_of [] = None
first_of (place ∷ places) = Some place

abbrev pub second_of : List Place → Option Place
second_of [] = None
second_of (place ∷ places) = first_of places

-- a filter keeps or drops what its pattern's text says
pub record IsFilter (given : Given) (filter : Filter) : Type 0 where
  pub keep : filter.keep ≡ given.keep
  pub pattern : IsPattern (chars given.pattern) filter.pattern

-- one filter for each, in the same order
abbrev pub AreFilters : List Given → List Filter → Type 0
AreFilters [] [] = ⊤
AreFilters (given ∷ more) (filter ∷ filters) = IsFilter given filter × AreFilters more filters
AreFilters given filters = ⊥

-- size alone decides where both flags are given
abbrev pub times_of : Bool → Bool → Times
times_of true exact = SizeOnly
times_of false true = Exact
times_of false false = Usual

abbrev pub mode_of : List Role → Mode
mode_of words = record {
  dryrun = is_given option.Dryrun words;
  quiet = is_given option.Quiet words;
  only_errors = is_given option.OnlyShowErrors words;
}

-- the seconds that are given, and else an hour
abbrev pub expires_of : Option (List ℕ) → ℕ
expires_of None = 3600
expires_of (Some text) = unwrap_or (seconds text) 3600

-- the command that these words, behind the command's name, ask for
pub record Asks (words : List Role) (command : Command) : Type 0 where
  pub from : command.from ≡ first_of (places_in words)
  pub to : command.to ≡ second_of (places_in words)
  pub endpoint : IsEndpoint (value_of option.EndpointUrl words) (Some command.endpoint)
  pub region : command.region ≡ value_of option.Region words
  pub profile : command.profile ≡ value_of option.Profile words
  pub filters : AreFilters (filters_in words) command.filters
  pub recursive : command.recursive ≡ is_given option.Recursive words
  pub times : command.times ≡ times_of (is_given option.SizeOnly words) (is_given option.ExactTimestamps words)
  pub remove_extra : command.remove_extra ≡ is_given option.Delete words
  pub mode : command.mode ≡ mode_of words
  pub content : command.content ≡ value_of option.ContentType words
  pub guess : command.guess ≡ not (is_given option.NoGuessMimeType words)
  pub expires : command.expires ≡ expires_of (value_of option.ExpiresIn words)

abbrev pub verb_of : List (List ℕ) → Option Verb
verb_of [] = None
verb_of (word ∷ words) = verb_named word

abbrev pub arguments_of : List (List ℕ) → List Role
arguments_of [] = []
arguments_of (word ∷ words) = roles Anything words

pub record IsCommand (words : List (List ℕ)) (command : Command) : Type 0 where
  pub verb : verb_of words ≡ Some command.verb
  pub asks : Asks (arguments_of words) command

-- an object is named
abbrev pub NamesObject : Command → Type 0
NamesObject command = IsObject command.from
