-- The line of a task with its outcome, where it goes, and the status of a run by its outcomes. The lines of tasks that
-- are done, dry or failed are the AWS CLI's.
use Rattle.std.specs.Prelude.{◌≡◌, ◌≢◌, ◌++◌, ℕ, Bool, true, false, List, [], Option, Some, None, codes, nat_lt}
use Rattle.std.specs.Prelude.{if◌then◌else◌}
use Rattle.std.specs.List.{list_any}
use Rattle.s3_model.specs.declared.outcomes.Cause.{Cause}
use Rattle.s3_model.specs.declared.outcomes.Outcome.{Outcome}
use Rattle.s3_model.specs.declared.outcomes.Outcome.TheVariants as outcome
use Rattle.s3_model.specs.declared.places.Place.{Place}
use Rattle.s3_model.specs.declared.places.Place.TheVariants as place
use Rattle.s3_model.specs.declared.tasks.Kind.{Kind}
use Rattle.s3_model.specs.declared.tasks.Kind.TheVariants as kind
use Rattle.s3_model.specs.declared.tasks.Mode.{Mode}
use Rattle.s3_model.specs.declared.tasks.Task.{Task}
use Rattle.s3_paths.specs.Uris.{uri_text}
use Rattle.result_lines.specs.declared.tasks.Line.{Line}
use Rattle.result_lines.specs.Causes.{IsShown, cause_text}

-- a path as it is joined, or `s3://bucket/key`
abbrev pub place_text : Place → List ℕ
place_text (place.Object bucket key) = uri_text bucket key
place_text (place.File path) = path

abbrev pub source_text : Option Place → List ℕ
source_text None = []
source_text (Some source) = place_text source

abbrev pub kind_verb : Kind → List ℕ
kind_verb kind.Upload = codes "upload"
kind_verb kind.Download = codes "download"
kind_verb kind.Copy = codes "copy"
kind_verb kind.RemoveObject = codes "delete"
kind_verb kind.RemoveFile = codes "delete"

abbrev pub verb : Task → List ℕ
verb task = if task.moves then codes "move" else kind_verb task.kind

abbrev pub is_removal : Kind → Bool
is_removal kind.RemoveObject = true
is_removal kind.RemoveFile = true
is_removal other = false

-- a removal names what it removes, each other task both of its places
abbrev pub names : Task → List ℕ
names task =
    if is_removal task.kind then place_text task.dest
    else source_text task.source ++ codes " to " ++ place_text task.dest

-- why the task did not end as planned
abbrev pub reason : Task → Cause → List ℕ
reason task why = cause_text (place_text task.dest) why

abbrev pub task_text : Task → Outcome → List ℕ
task_text task outcome.Done = verb task ++ codes ": " ++ names task
task_text task outcome.Dry = codes "(dryrun) " ++ verb task ++ codes ": " ++ names task
task_text task (outcome.Failed why) = verb task ++ codes " failed: " ++ names task ++ codes " " ++ reason task why
task_text task (outcome.Unknown why) = verb task ++ codes " unknown: " ++ names task ++ codes " " ++ reason task why
task_text task (outcome.Copied why) = codes "move copied: " ++ names task ++ codes " " ++ reason task why
task_text task outcome.Skipped = verb task ++ codes " skipped: " ++ names task

-- Done and Dry go to standard output, the others to standard error
abbrev pub goes_to_err : Outcome → Bool
goes_to_err outcome.Done = false
goes_to_err outcome.Dry = false
goes_to_err other = true

-- the outcomes whose lines `--only-show-errors` leaves out
abbrev pub is_no_error : Outcome → Bool
is_no_error outcome.Done = true
is_no_error outcome.Dry = true
is_no_error outcome.Skipped = true
is_no_error other = false

abbrev pub task_line : Task → Outcome → Line
task_line task how = record { to_err = goes_to_err how; text = task_text task how ++ codes "\n" }

-- `--quiet` leaves out every line
abbrev pub is_left_out : Outcome → Mode → Bool
is_left_out how mode = if mode.quiet then true else (if mode.only_errors then is_no_error how else false)

abbrev pub line_of : Task → Outcome → Mode → Option Line
line_of task how mode = if is_left_out how mode then None else Some (task_line task how)

-- a task that is no removal has a source
abbrev pub HasSource : Task → Type 0
HasSource task = is_removal task.kind ≡ false → task.source ≢ None

abbrev pub HasShownCause : Outcome → Type 0
HasShownCause (outcome.Failed why) = IsShown why
HasShownCause (outcome.Unknown why) = IsShown why
HasShownCause (outcome.Copied why) = IsShown why
HasShownCause other = Unit {0}

-- the outcomes by which a run ends with status 1; a skipped task is none of them
abbrev pub is_unfinished : Outcome → Bool
is_unfinished (outcome.Failed why) = true
is_unfinished (outcome.Unknown why) = true
is_unfinished (outcome.Copied why) = true
is_unfinished other = false

-- 1 where a task is unfinished, else 2 where something was warned of, else 0
abbrev pub status_of : List Outcome → (warnings : ℕ) → ℕ
status_of outcomes warnings = if list_any is_unfinished outcomes then 1 else (if nat_lt 0 warnings then 2 else 0)
