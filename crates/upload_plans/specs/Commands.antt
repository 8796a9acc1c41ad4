-- Which commands are done by now, and the places that such a command names.
use Rattle.std.specs.Prelude.{◌≡◌, ◌&&◌, ◌||◌, ℕ, Bool, true, false, not, List, Option, Some}
use Rattle.s3_model.specs.declared.places.Place.{Place}
use Rattle.s3_model.specs.declared.places.Place.TheVariants as place
use Rattle.s3_model.specs.Places.{IsFile, IsObject, bucket_at, key_at, path_at}
use Rattle.s3_words.specs.declared.commands.Command.{Command}
use Rattle.s3_words.specs.declared.commands.Verb.{Verb}
use Rattle.s3_words.specs.declared.commands.Verb.TheVariants.{Mv, Rm}
use Rattle.s3_words.specs.Options.{is_copy, is_listing, is_presign}

abbrev pub reads_object : Option Place → Bool
reads_object (Some (place.Object bucket key)) = true
reads_object from = false

abbrev pub is_move : Verb → Bool
is_move Mv = true
is_move of_verb = false

abbrev pub is_removal : Verb → Bool
is_removal Rm = true
is_removal of_verb = false

-- a `cp` or `mv` from local files
abbrev pub uploads : Command → Bool
uploads command = (is_copy command.verb || is_move command.verb) && not (reads_object command.from)

-- an `rm` of one object
abbrev pub removes_one : Command → Bool
removes_one command = is_removal command.verb && not command.recursive

-- a dry run that has nothing to ask a service
abbrev pub is_offline_dry_run : Command → Bool
is_offline_dry_run command = command.mode.dryrun && (uploads command || removes_one command)

-- a copy that reads an object, goes over a tree, or is a dry run
abbrev pub is_unbuilt_copy : Command → Bool
is_unbuilt_copy command = reads_object command.from || command.recursive || command.mode.dryrun

-- The program does not do the command yet: it is none of `cp`, `ls` and `presign`, or such a copy; and it is no dry run
-- that has nothing to ask a service.
abbrev pub is_unbuilt : Command → Bool
is_unbuilt command = not (is_presign command.verb || is_listing command.verb || is_offline_dry_run command)
    && (not (is_copy command.verb) || is_unbuilt_copy command)

-- the local file, and the bucket and the key that the words name
abbrev pub source_path : Command → List ℕ
source_path command = path_at command.from

abbrev pub bucket_of : Command → List ℕ
bucket_of command = bucket_at command.to

abbrev pub key_of : Command → List ℕ
key_of command = key_at command.to

-- from a local file to an object
pub record CopiesUp (command : Command) : Type 0 where
  pub from : IsFile command.from
  pub to : IsObject command.to

-- what such a dry run names: local files that are to become objects, or an object that is to be removed
pub record IsOffline (command : Command) : Type 0 where
  pub copies : is_removal command.verb ≡ false → CopiesUp command
  pub removes : is_removal command.verb ≡ true → IsObject command.from
