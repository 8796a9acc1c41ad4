-- What a run prints.
use Rattle.std.specs.Prelude.{◌≡◌, ◌≢◌, ◌++◌, ℕ, List, [], ◌∷◌, Option, Some, None, Result, Ok, Err, codes, flat_map}
use Rattle.std.specs.Prelude.{if◌then◌else◌}
use Rattle.std.specs.List.{AllByRecursion}
use Rattle.local_files.specs.Calls.{IsTempFor}
use Rattle.s3_model.specs.declared.list.OutOfMemory.{OutOfMemory}
use Rattle.s3_model.specs.declared.outcomes.Outcome.{Outcome}
use Rattle.s3_model.specs.declared.tasks.Mode.{Mode}
use Rattle.s3_model.specs.declared.tasks.Kind.TheVariants as kind
use Rattle.s3_model.specs.declared.tasks.Task.{Task}
use Rattle.s3_model.specs.declared.tasks.Warning.{Warning}
use Rattle.s3_model.specs.declared.tasks.Warning.TheVariants as warning
use Rattle.s3_model.specs.declared.places.Place.TheVariants as place
use Rattle.result_lines.specs.declared.tasks.Line.{Line}
use Rattle.result_lines.specs.Causes as causes
use Rattle.result_lines.specs.Causes.{cause_text}
use Rattle.result_lines.specs.Faults.{IsListingFault, IsPlanFault, IsWalkFault, fatal_line, listing_text}
use Rattle.result_lines.specs.Faults.{plan_text, profile_text, program_line, unread_line, walk_text, word_text}
use Rattle.result_lines.specs.Tasks.{line_of}
use Rattle.result_lines.specs.Warnings.{warning_line}
use Rattle.s3_words.specs.Commands.{arguments_of, mode_of}
use Rattle.run_report.specs.declared.run.Fatal.{Fatal}
use Rattle.run_report.specs.declared.run.Fatal.TheVariants as fatal
use Rattle.run_report.specs.declared.run.Run.{Run}
use Rattle.run_report.specs.declared.printout.Printout.{Printout}

-- what is printed, as the words say
abbrev pub mode_in : (words : List (List ℕ)) → Mode
mode_in words = mode_of (arguments_of words)

-- what a line is to standard output, and to standard error
abbrev pub out_part : Option Line → List ℕ
out_part None = []
out_part (Some line) = if line.to_err then [] else line.text

abbrev pub err_part : Option Line → List ℕ
err_part None = []
err_part (Some line) = if line.to_err then line.text else []

-- `--quiet` leaves warnings out
abbrev pub warning_lines : Mode → List Warning → List ℕ
warning_lines mode warnings = if mode.quiet then [] else flat_map warning_line warnings

-- the lines of tasks with their outcomes, in order: to standard output
abbrev pub out_lines : Mode → List Task → List Outcome → List ℕ
out_lines mode (task ∷ tasks) (how ∷ outcomes) = out_part (line_of task how mode) ++ out_lines mode tasks outcomes
out_lines mode tasks outcomes = []

-- and to standard error, each behind the warnings of its task
abbrev pub err_lines : Mode → List Task → List Outcome → (own : List (List Warning)) → List ℕ
err_lines mode (task ∷ tasks) (how ∷ outcomes) (warnings ∷ own) =
    (warning_lines mode warnings ++ err_part (line_of task how mode)) ++ err_lines mode tasks outcomes own
err_lines mode tasks outcomes own = []

-- The line of a run that ended early. It is printed under `--quiet`, too; where memory ran out there is none but the
-- one that says so, behind all that was printed.
abbrev pub ending_line : (words : List (List ℕ)) → Fatal → List ℕ
ending_line words (fatal.Words fault) = program_line (word_text words fault)
ending_line words (fatal.Profile fault) = program_line (profile_text fault)
ending_line words fatal.EnvRead = unread_line
ending_line words (fatal.Plan fault) = fatal_line (plan_text fault)
ending_line words (fatal.Walk fault) = fatal_line (walk_text fault)
ending_line words (fatal.Listing fault) = fatal_line (listing_text fault)
ending_line words (fatal.Answer cause) = fatal_line (cause_text [] cause)
ending_line words fatal.Memory = []
ending_line words fatal.NotYet = program_line (codes "not built yet")

-- no fault but the one of memory says that memory ran out
abbrev pub HasLine : Fatal → Type 0
HasLine (fatal.Plan fault) = IsPlanFault fault
HasLine (fatal.Walk fault) = IsWalkFault fault
HasLine (fatal.Listing fault) = IsListingFault fault
HasLine (fatal.Answer cause) = causes.IsShown cause
HasLine why = Unit {0}

abbrev pub ending_lines : (words : List (List ℕ)) → Option Fatal → List ℕ
ending_lines words None = []
ending_lines words (Some why) = ending_line words why

-- before any task: the warnings of planning, and behind them why the run ended early
abbrev pub opening_text : (words : List (List ℕ)) → List Warning → Option Fatal → List ℕ
opening_text words warnings why = warning_lines (mode_in words) warnings ++ ending_lines words why

-- ---- the warnings of a run

-- of what was looked at: names that are not UTF-8, and what is no file
abbrev pub IsOfLooking : Warning → Type 0
IsOfLooking (warning.Unnamed count) = Unit {0}
IsOfLooking (warning.NotAFile path) = Unit {0}
IsOfLooking other = ⊥

-- of a download: its file's time could not be set, or a temporary file for it could not be removed
abbrev pub IsOfTask : Task → Warning → Type 0
IsOfTask task (warning.TimeNotSet path) = (task.kind ≡ kind.Download) × (task.dest ≡ place.File path)
IsOfTask task (warning.TempLeft path) =
    (task.kind ≡ kind.Download) × (dest : List ℕ) × (task.dest ≡ place.File dest) × IsTempFor dest path
IsOfTask task other = ⊥

abbrev pub AreOfTasks : List Task → List (List Warning) → Type 0
AreOfTasks [] [] = Unit {0}
AreOfTasks (task ∷ tasks) (warnings ∷ own) = AllByRecursion (IsOfTask task) warnings × AreOfTasks tasks own
AreOfTasks tasks own = ⊥

-- those of looking, and those of each task
pub record Warned : Type 0 where
  pub looked : List Warning
  pub own : List (List Warning)

-- of planning: those of looking, and then the plan's own, which are of names that are left out
abbrev pub planned_in : Warned → Run → List Warning
planned_in warned run = warned.looked ++ run.plan.warnings.items

-- the warnings of a run are those of planning, and then those of its tasks, in the tasks' order
pub record HasWarned (run : Run) (warned : Warned) : Type 0 where
  pub all : run.warnings.items ≡ planned_in warned run ++ flat_map (λ own. own) warned.own
  pub looked : AllByRecursion IsOfLooking warned.looked
  pub own : AreOfTasks run.plan.tasks.items warned.own

-- ---- both texts

-- `own` is what the command is there to show, before the lines of its tasks
abbrev pub out_text : (words : List (List ℕ)) → (own : List ℕ) → Run → List ℕ
out_text words own run = own ++ out_lines (mode_in words) run.plan.tasks.items run.outcomes.items

-- the warnings of planning, why the run ended early, and then the tasks in order, each with its own warnings before it
abbrev pub err_text : (words : List (List ℕ)) → Warned → Run → List ℕ
err_text words warned run = opening_text words (planned_in warned run) run.fatal
    ++ err_lines (mode_in words) run.plan.tasks.items run.outcomes.items warned.own

-- ---- what a run is about to print

-- it has these texts, unless memory ran out for it
abbrev pub HasTexts : (out err : List ℕ) → Result Printout OutOfMemory → Type 0
HasTexts out err (Ok said) = (said.out ≡ out) × (said.err ≡ err)
HasTexts out err (Err memory) = Unit {0}

-- memory ran out for the text of a run that memory ran out for
abbrev pub MatchesFatal : Option Fatal → Result Printout OutOfMemory → Type 0
MatchesFatal why (Ok said) = why ≢ Some fatal.Memory
MatchesFatal why (Err memory) = Unit {0}

pub record IsTextOf (words : List (List ℕ)) (own : List ℕ) (run : Run)
    (text : Result Printout OutOfMemory) : Type 0 where
  pub warned : Warned
  pub warnings : HasWarned run warned
  pub texts : HasTexts (out_text words own run) (err_text words warned run) text
  pub no_memory : MatchesFatal run.fatal text

-- ---- what is printed of it

abbrev pub out_of : Result Printout OutOfMemory → List ℕ
out_of (Ok said) = said.out
out_of (Err memory) = []

abbrev pub err_of : Result Printout OutOfMemory → List ℕ
err_of (Ok said) = said.err
err_of (Err memory) = []

-- memory that ran out for the text ends the run
abbrev pub fatal_after : Result Printout OutOfMemory → Option Fatal → Option Fatal
fatal_after (Ok said) why = why
fatal_after (Err memory) why = Some fatal.Memory
