-- From the words of a dry run that asks nothing to what it is to transfer or remove (AWS CLI Command Reference,
-- `s3 cp`, `s3 mv` and `s3 rm`).
use Rattle.std.specs.Prelude.{◌||◌, ◌==◌, ◌++◌, ℕ, Bool, false, List, [], Some, None, length, codes, nat_eq}
use Rattle.std.specs.Prelude.{if◌then◌else◌}
use Rattle.std.specs.List.{ends_with}
use Rattle.s3_model.specs.Places.{bucket_at, key_at}
use Rattle.s3_model.specs.declared.places.Entry.{Entry}
use Rattle.s3_model.specs.declared.places.Place.TheVariants as place
use Rattle.s3_model.specs.declared.settings.Limits.{Limits}
use Rattle.s3_model.specs.declared.tasks.Kind.TheVariants as kind
use Rattle.s3_words.specs.declared.commands.Command.{Command}
use Rattle.sync_plan.specs.declared.errand.Errand.{Errand}
use Rattle.upload_plans.specs.Commands.{bucket_of, is_move, key_of, source_path}

-- where there may be many names, a key that is not empty ends in `/`
abbrev pub prefix_of : List ℕ → List ℕ
prefix_of key = if length key == 0 || ends_with nat_eq key (codes "/") then key else key ++ codes "/"

abbrev pub dest_key : (many : Bool) → List ℕ → List ℕ
dest_key many key = if many then prefix_of key else key

-- `cp` and `mv` from a local file, or from a local folder under `--recursive`
abbrev pub upload_errand : Command → Limits → Errand
upload_errand command limits = record {
  kind = kind.Upload;
  moves = is_move command.verb;
  from = place.File (source_path command);
  to = Some (place.Object (bucket_of command) (dest_key command.recursive (key_of command)));
  many = command.recursive;
  times = command.times;
  remove_extra = false;
  content = command.content;
  guess = command.guess;
  fresh = false;
  filters = command.filters;
  limits = limits;
}

-- `rm` of one object
abbrev pub removal_errand : Command → Limits → Errand
removal_errand command limits = record {
  kind = kind.RemoveObject;
  moves = false;
  from = place.Object (bucket_at command.from) (key_at command.from);
  to = None;
  many = false;
  times = command.times;
  remove_extra = false;
  content = command.content;
  guess = command.guess;
  fresh = false;
  filters = command.filters;
  limits = limits;
}

-- the object that is to be removed; nobody asks whether it is there
abbrev pub removal_entry : Command → Entry
removal_entry command = record { key = key_at command.from; size = 0; etag = []; micros = 0 }
