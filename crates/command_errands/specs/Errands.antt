-- What a command asks to be transferred or removed (AWS CLI Command Reference, `s3`).
use Rattle.std.specs.Prelude.{◌&&◌, ◌||◌, ⊤, ℕ, Bool, true, false, not, List, [], Option, Some, None, option_map}
use Rattle.std.specs.Prelude.{if◌then◌else◌}
use Rattle.s3_model.specs.declared.places.Place.{Place}
use Rattle.s3_model.specs.declared.places.Place.TheVariants as place
use Rattle.s3_model.specs.declared.settings.Limits.{Limits}
use Rattle.s3_model.specs.declared.tasks.Kind.{Kind}
use Rattle.s3_model.specs.declared.tasks.Kind.TheVariants as kind
use Rattle.s3_model.specs.Files.{folder_path}
use Rattle.s3_words.specs.declared.commands.Command.{Command}
use Rattle.s3_words.specs.declared.commands.Verb.{Verb}
use Rattle.s3_words.specs.declared.commands.Verb.TheVariants as verb
use Rattle.s3_words.specs.Options.{is_sync}
use Rattle.s3_words.specs.Values.{is_empty}
use Rattle.sync_plan.specs.declared.errand.Errand.{Errand}

-- ---- the places that a command takes

-- what is transferred is read or written in a bucket
abbrev pub AreEnds : (from to : Option Place) → Type 0
AreEnds (Some (place.File path)) (Some (place.Object bucket key)) = ⊤
AreEnds (Some (place.Object bucket key)) (Some at) = ⊤
AreEnds from to = ⊥

-- what is removed is in a bucket
abbrev pub IsRemoval : (from to : Option Place) → Type 0
IsRemoval (Some (place.Object bucket key)) None = ⊤
IsRemoval from to = ⊥

abbrev pub TakesPlaces : Verb → (from to : Option Place) → Type 0
TakesPlaces verb.Cp from to = AreEnds from to
TakesPlaces verb.Mv from to = AreEnds from to
TakesPlaces verb.Sync from to = AreEnds from to
TakesPlaces verb.Rm from to = IsRemoval from to
TakesPlaces of_verb from to = ⊥

-- ---- the errand

abbrev pub is_move : Verb → Bool
is_move verb.Mv = true
is_move of_verb = false

abbrev pub removes : Verb → Bool
removes verb.Rm = true
removes of_verb = false

-- there may be many names below the places
abbrev pub is_many : Command → Bool
is_many command = command.recursive || is_sync command.verb

-- the prefix of what stands below a key; that of a whole bucket is empty
abbrev pub prefix_of : (key : List ℕ) → List ℕ
prefix_of key = if is_empty key then key else folder_path key

abbrev pub source_of : (many : Bool) → Place → Place
source_of many (place.Object bucket key) = place.Object bucket (if many then prefix_of key else key)
source_of many (place.File path) = place.File path

-- a folder that exists gets one name put into it, and so a final `/`
abbrev pub dest_of : (many into_folder : Bool) → Place → Place
dest_of many into_folder (place.Object bucket key) = source_of many (place.Object bucket key)
dest_of many into_folder (place.File path) =
    place.File (if into_folder && not many then folder_path path else path)

abbrev pub kind_of : (from : Place) → (to : Option Place) → Kind
kind_of from None = kind.RemoveObject
kind_of (place.File path) (Some to) = kind.Upload
kind_of (place.Object bucket key) (Some (place.File path)) = kind.Download
kind_of (place.Object b k) (Some (place.Object bucket key)) = kind.Copy

abbrev pub errand_from : Command → Limits → (into_folder : Bool) → (from : Place) → Errand
errand_from command limits into_folder from = record {
  kind = kind_of from command.to;
  moves = is_move command.verb;
  from = source_of (is_many command) from;
  to = option_map (dest_of (is_many command) into_folder) command.to;
  many = is_many command;
  times = command.times;
  remove_extra = command.remove_extra;
  content = command.content;
  guess = command.guess;
  fresh = false;
  filters = command.filters;
  limits = limits;
}

-- the errand of a command that names a source
abbrev pub errand_of : Command → Limits → (into_folder : Bool) → Option Errand
errand_of command limits into_folder = option_map (errand_from command limits into_folder) command.from

-- what is left of a command whose errand took over what is the errand's
abbrev pub without_errand : Command → Command
without_errand command = record command { from = None; to = None; filters = []; content = None }
