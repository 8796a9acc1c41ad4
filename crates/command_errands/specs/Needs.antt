-- What planning asks of a service for a command, a dry run as well, where nothing that local files show ends it before
-- (AWS CLI Command Reference, `s3`).
use Rattle.std.specs.Prelude.{◌++◌, Bool, false, not, List, [], ◌∷◌, Option, Some, None, if◌then◌else◌}
use Rattle.s3_model.specs.declared.places.Place.{Place}
use Rattle.s3_model.specs.declared.places.Place.TheVariants as place
use Rattle.s3_model.specs.declared.requests.Ask.TheVariants as ask
use Rattle.run_promise.specs.Planning as planning
use Rattle.run_promise.specs.Planning.{Need}
use Rattle.s3_words.specs.declared.commands.Command.{Command}
use Rattle.s3_words.specs.declared.commands.Verb.{Verb}
use Rattle.s3_words.specs.declared.commands.Verb.TheVariants as verb
use Rattle.command_errands.specs.Errands.{prefix_of}

-- all objects below a place in a bucket
abbrev pub names_below : Option Place → List Need
names_below (Some (place.Object bucket key)) = planning.Listing bucket (prefix_of key) false ∷ []
names_below at = []

-- the one object of a place in a bucket
abbrev pub object_at : Option Place → List Need
object_at (Some (place.Object bucket key)) = planning.One (ask.Head bucket key) ∷ []
object_at at = []

-- `ls` lists by its key as it is written, and up to the next `/` unless all is wanted
abbrev pub listed_at : (recursive : Bool) → Option Place → List Need
listed_at recursive None = planning.One ask.Buckets ∷ []
listed_at recursive (Some (place.Object bucket key)) = planning.Listing bucket key (not recursive) ∷ []
listed_at recursive (Some (place.File path)) = []

abbrev pub transfer_needs : (recursive : Bool) → (from : Option Place) → List Need
transfer_needs recursive from = if recursive then names_below from else object_at from

abbrev pub verb_needs : Verb → (recursive : Bool) → (from to : Option Place) → List Need
verb_needs verb.Cp recursive from to = transfer_needs recursive from
verb_needs verb.Mv recursive from to = transfer_needs recursive from
verb_needs verb.Sync recursive from to = names_below from ++ names_below to
verb_needs verb.Rm recursive from to = if recursive then names_below from else []
verb_needs verb.Ls recursive from to = listed_at recursive from
verb_needs verb.Presign recursive from to = []

abbrev pub needs_of : Command → List Need
needs_of command = verb_needs command.verb command.recursive command.from command.to
