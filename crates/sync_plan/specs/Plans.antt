-- The tasks and warnings of a plan (AWS CLI Command Reference, `s3 cp`, `s3 mv`, `s3 rm` and `s3 sync`).
use Rattle.std.specs.Prelude.{◌&&◌, ℕ, Bool, true, false, List, [], Option, Some, None, filter, filter_map, map}
use Rattle.std.specs.Prelude.{option_map, if◌then◌else◌}
use Rattle.std.specs.Map.{values_of}
use Rattle.std.specs.Option.{is_none}
use Rattle.std.specs.Str.{chars}
use Rattle.path_filters.specs.Filters.{is_kept}
use Rattle.s3_model.specs.ContentTypes.{content_type_of}
use Rattle.s3_model.specs.declared.places.Entry.{Entry}
use Rattle.s3_model.specs.declared.places.Place.{Place}
use Rattle.s3_model.specs.declared.places.Place.TheVariants as place
use Rattle.s3_model.specs.declared.tasks.Kind.{Kind}
use Rattle.s3_model.specs.declared.tasks.Kind.TheVariants as kind
use Rattle.s3_model.specs.declared.tasks.Task.{Task}
use Rattle.s3_model.specs.declared.tasks.Warning.{Warning}
use Rattle.s3_model.specs.declared.tasks.Warning.TheVariants as warning
use Rattle.sync_plan.specs.declared.errand.Errand.{Errand}
use Rattle.sync_plan.specs.Errands.{dest_at, named, names_of, place_at, skip_of, source_at}
use Rattle.merged_names.specs.Merging.{merged}
use Rattle.merged_names.specs.Turns.{chosen_at}
use Rattle.sync_plan.specs.Times.{differs}

-- the filters look at the relative path
abbrev pub is_kept_by : Errand → (path : List ℕ) → Bool
is_kept_by errand path = is_kept errand.filters (chars path)

-- ---- transfers

-- the content type of the errand, else that of the file's extension
abbrev pub content_by : Option (List ℕ) → (guess : Bool) → (path : List ℕ) → Option (List ℕ)
content_by (Some content) guess path = Some content
content_by None guess path = if guess then content_type_of path else None

-- only uploads have one
abbrev pub content_for : Errand → Kind → (source : Place) → Option (List ℕ)
content_for errand kind.Upload (place.File path) = content_by errand.content errand.guess path
content_for errand of_kind source = None

abbrev pub transfer_task : Errand → (source dest : Place) → Entry → Task
transfer_task errand source dest entry = record {
  kind = errand.kind;
  moves = errand.moves;
  source = Some source;
  dest = dest;
  size = entry.size;
  etag = entry.etag;
  micros = entry.micros;
  content = content_for errand errand.kind source;
  fresh = errand.fresh;
}

-- it is missing at the destination, or differs from what is there
abbrev pub is_due : Errand → Entry → Option Entry → Bool
is_due errand entry None = true
is_due errand entry (Some other) = differs entry other errand.kind errand.times

-- A name of the source is transferred where the filters keep it, it is not skipped by name, and it is due.
abbrev pub is_transferred : Errand → (to : Place) → (many : Bool) → List ℕ × Entry → Option Entry → Bool
is_transferred errand to many name other =
    is_kept_by errand name.0 && is_none (skip_of to many name.0) && is_due errand name.1 other

abbrev pub transfer_of : Errand → (to : Place) → (many : Bool) → List ℕ × Entry → Option Entry → Option Task
transfer_of errand to many name other =
    if is_transferred errand to many name other
    then Some (transfer_task errand (source_at errand.from many name.0) (dest_at to many name.0) name.1) else None

-- ---- removals

abbrev pub removal_kind : Place → Kind
removal_kind (place.Object bucket key) = kind.RemoveObject
removal_kind (place.File path) = kind.RemoveFile

abbrev pub removal_task : Place → Entry → Task
removal_task of_place entry = record {
  kind = removal_kind of_place;
  moves = false;
  source = None;
  dest = of_place;
  size = entry.size;
  etag = entry.etag;
  micros = entry.micros;
  content = None;
  fresh = false;
}

-- A name of the destination is removed where that is asked for, the filters keep it, and the source does not have it.
abbrev pub removal_of : Errand → (to : Place) → List ℕ × Entry → Option Entry → Option Task
removal_of errand to name (Some other) = None
removal_of errand to name None =
    if errand.remove_extra && is_kept_by errand name.0 then Some (removal_task (place_at to name.0) name.1) else None

-- ---- plans

-- the tasks of `cp`, `mv` and `sync`, in the byte order of their relative paths
unfoldable pub planned : Errand → (to : Place) → (many : Bool) → (source dest : List Entry) → List Task
planned errand to many source dest =
    values_of (merged (transfer_of errand to many) (removal_of errand to)
    (names_of errand.from many source) (names_of to many dest))

-- a warning for a name that is kept and skipped
abbrev pub warning_of : Errand → (to : Place) → (many : Bool) → List ℕ × Entry → Option Warning
warning_of errand to many name =
    if is_kept_by errand name.0
    then option_map (λ why. warning.Skipped (source_at errand.from many name.0) why) (skip_of to many name.0) else None

unfoldable pub skipped : Errand → (to : Place) → (many : Bool) → (source : List Entry) → List Warning
skipped errand to many source = filter_map (warning_of errand to many) (names_of errand.from many source)

-- by the destination of the errand
abbrev pub tasks_for : Errand → (to : Option Place) → (many : Bool) → (source dest : List Entry) → List Task
tasks_for errand None many source dest = []
tasks_for errand (Some to) many source dest = planned errand to many source dest

abbrev pub warnings_for : Errand → (to : Option Place) → (many : Bool) → (source : List Entry) → List Warning
warnings_for errand None many source = []
warnings_for errand (Some to) many source = skipped errand to many source

-- `cp` and `mv` look at no entries of the destination
abbrev pub copies : Errand → (source : List Entry) → List Task
copies errand source = tasks_for errand errand.to errand.many source []

-- `sync` may always have many names
abbrev pub synced : Errand → (source dest : List Entry) → List Task
synced errand source dest = tasks_for errand errand.to true source dest

-- the tasks of `rm`, folder markers among them
abbrev pub removed : Errand → List ℕ × Entry → Task
removed errand name = removal_task (source_at errand.from errand.many name.0) name.1

unfoldable pub planned_removals : Errand → List Entry → List Task
planned_removals errand entries =
    map (removed errand) (filter (λ name. is_kept_by errand name.0) (map (named errand.from errand.many) entries))

-- ---- one path

abbrev pub task_at : Errand → (to : Place) → (many : Bool) → (path : List ℕ) → (ours theirs : Option Entry)
    → Option Task
task_at errand to many path ours theirs = chosen_at (transfer_of errand to many) (removal_of errand to) path ours theirs

abbrev pub warning_at : Errand → (to : Place) → (many : Bool) → (path : List ℕ) → (ours : Option Entry) → Option Warning
warning_at errand to many path None = None
warning_at errand to many path (Some entry) = warning_of errand to many (path, entry)
