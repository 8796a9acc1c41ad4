-- What copying one local file up comes to (AWS CLI Command Reference, `s3 cp`).
use Rattle.std.specs.Prelude.{◌≢◌, ◌||◌, ◌==◌, ◌++◌, ℕ, Bool, false, List, [], Option, Some, None, length, codes}
use Rattle.std.specs.Prelude.{nat_eq, nat_le, nat_lt, if◌then◌else◌}
use Rattle.std.specs.List.{ends_with}
use Rattle.std.specs.Str.{chars}
use Rattle.path_filters.specs.Filters.{is_kept}
use Rattle.s3_model.specs.declared.faults.KeySkip.{KeySkip}
use Rattle.s3_model.specs.declared.faults.KeySkip.TheVariants as skip
use Rattle.s3_model.specs.declared.faults.PlanFault.TheVariants as plan
use Rattle.s3_model.specs.declared.places.Place.TheVariants as place
use Rattle.s3_model.specs.declared.tasks.Kind.TheVariants as kind
use Rattle.s3_model.specs.declared.tasks.Task.{Task}
use Rattle.s3_model.specs.ContentTypes.{content_type_of, last_name}
use Rattle.s3_outside.specs.declared.files.Shape.{Shape}
use Rattle.s3_outside.specs.declared.files.Shape.TheVariants as shape
use Rattle.s3_paths.specs.Names.{key_skip}
use Rattle.s3_words.specs.declared.commands.Command.{Command}
use Rattle.upload_plans.specs.Commands.{bucket_of, key_of, source_path}
use Rattle.upload_plans.specs.declared.plan.Fate.{Fate}
use Rattle.upload_plans.specs.declared.plan.Fate.TheVariants as fate

-- the key is a bucket's whole or a prefix, and the name of the file is put behind it
abbrev pub takes_name : List ℕ → Bool
takes_name key = length key == 0 || ends_with nat_eq key (codes "/")

abbrev pub added_name : (path key : List ℕ) → List ℕ
added_name path key = if takes_name key then last_name path else []

-- the key of the object that the file becomes
abbrev pub planned_key : (path key : List ℕ) → List ℕ
planned_key path key = key ++ added_name path key

abbrev pub guessed : Bool → List ℕ → Option (List ℕ)
guessed guess path = if guess then content_type_of path else None

abbrev pub content_by : Option (List ℕ) → Bool → (path : List ℕ) → Option (List ℕ)
content_by (Some content) guess path = Some content
content_by None guess path = guessed guess path

-- the content type of the command, else that of the file's extension
abbrev pub content_for : Command → (path : List ℕ) → Option (List ℕ)
content_for command path = content_by command.content command.guess path

abbrev pub planned_task : Command → (path bucket key : List ℕ) → (size micros : ℕ) → Task
planned_task command path bucket key size micros = record {
  kind = kind.Upload;
  moves = false;
  source = Some (place.File path);
  dest = place.Object bucket key;
  size = size;
  etag = [];
  micros = micros;
  content = content_for command path;
  fresh = false;
}

abbrev pub task_fate : Command → (path bucket key : List ℕ) → (max_object size micros : ℕ) → Fate
task_fate command path bucket key max_object size micros =
    if nat_lt max_object size then fate.Refused (plan.TooLarge path size)
    else fate.Upload (planned_task command path bucket key size micros)

-- a key that is empty or too long is not written
abbrev pub unless_skipped : Option KeySkip → (path : List ℕ) → Fate → Fate
unless_skipped (Some why) path other = fate.Skipped (place.File path) why
unless_skipped None path other = other

abbrev pub kept_fate : Command → (path bucket key : List ℕ) → (max_object size micros : ℕ) → Fate
kept_fate command path bucket key max_object size micros =
    unless_skipped (key_skip (planned_key path key)) path
    (task_fate command path bucket (planned_key path key) max_object size micros)

-- the filters look at the file's name
abbrev pub file_fate : Command → (path bucket key : List ℕ) → (max_object size micros : ℕ) → Fate
file_fate command path bucket key max_object size micros =
    if is_kept command.filters (chars (last_name path)) then kept_fate command path bucket key max_object size micros
    else fate.LeftOut

-- Files of this size in bytes, and larger ones, are not copied yet.
abbrev pub is_large : (threshold : ℕ) → Shape → Bool
is_large threshold (shape.File size micros) = nat_le threshold size
is_large threshold stands = false

-- what stands at a path that is no large file
abbrev pub shape_fate : Command → (max_object : ℕ) → Shape → Fate
shape_fate command max_object shape.Absent = fate.Refused (plan.NoSource (source_path command))
shape_fate command max_object shape.Folder = fate.Refused (plan.IsFolder (source_path command))
shape_fate command max_object shape.Other = fate.NotAFile (source_path command)
shape_fate command max_object (shape.File size micros) =
    file_fate command (source_path command) (bucket_of command) (key_of command) max_object size micros

abbrev pub fate_of : Command → (threshold max_object : ℕ) → Shape → Fate
fate_of command threshold max_object stands =
    if is_large threshold stands then fate.NotYet else shape_fate command max_object stands

-- a refusal or a skipped name is never want of memory
abbrev pub HasNoMemory : Fate → Type 0
HasNoMemory (fate.Refused fault) = fault ≢ plan.Memory
HasNoMemory (fate.Skipped at why) = why ≢ skip.Memory
HasNoMemory comes = Unit {0}
