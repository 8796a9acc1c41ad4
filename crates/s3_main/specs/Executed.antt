-- What the parts of a run come to, before it is printed.
use Rattle.std.specs.Prelude.{◌≡◌, ◌⊎◌, ℕ, Bool, List, Option, Some, None, Result, Ok, Err}
use Rattle.s3_model.specs.declared.faults.WalkFault.TheVariants as walk
use Rattle.s3_model.specs.declared.list.OutOfMemory.{OutOfMemory}
use Rattle.s3_model.specs.declared.settings.Limits.{Limits}
use Rattle.s3_model.specs.declared.settings.Settings.{Settings}
use Rattle.s3_model.specs.Counts.{Rose}
use Rattle.s3_model.specs.Talks.{Talk, Note, WireLog}
use Rattle.s3_outside.specs.Env.{SeenEnv}
use Rattle.s3_outside.specs.Files.{SeenFiles}
use Rattle.s3_words.specs.declared.commands.Command.{Command}
use Rattle.upload_plans.specs.declared.plan.Fate.{Fate}
use Rattle.upload_plans.specs.declared.plan.Fate.TheVariants as fate
use Rattle.run_report.specs.declared.printout.Printout.{Printout}
use Rattle.run_report.specs.declared.worked.Executed.{Executed}
use Rattle.run_report.specs.declared.run.Fatal.{Fatal}
use Rattle.run_report.specs.declared.run.Fatal.TheVariants as fatal
use Rattle.run_report.specs.declared.run.Run.{Run}
use Rattle.s3_main.specs.Plans.{HasPlan, IsFate, Wants, Works, skips_of, warnings_of}
use Rattle.s3_main.specs.Own.{IsOwn, Own}
use Rattle.s3_main.specs.Runs.{IsNothingPlanned, IsUnplanned}
use Rattle.run_report.specs.Texts.{IsTextOf}
use Rattle.run_report.specs.Taskless.{EndsForMemory, HasNoTask}
use Rattle.run_report.specs.Statuses.{fatal_status}

abbrev pub HasNoUpload : Fate → Type 0
HasNoUpload (fate.Upload task) = ⊥
HasNoUpload comes = Unit {0}

-- the file was not seen: a call failed, or memory ran out
abbrev pub IsUnseen : (faults_before faults_after : ℕ) → Fatal → Type 0
IsUnseen before after fatal.Memory = Unit {0}
IsUnseen before after (fatal.Walk walk.Files) = Rose before after
IsUnseen before after why = ⊥

abbrev pub OrMemory : Result Executed OutOfMemory → Executed → Type 0
OrMemory (Ok done) result = result ≡ done
OrMemory (Err memory) result = EndsForMemory result.run

-- why a run with that fate ends early, if it does
abbrev pub fatal_of : Fate → Option Fatal
fatal_of fate.NotYet = Some fatal.NotYet
fatal_of (fate.Refused fault) = Some (fatal.Plan fault)
fatal_of comes = None

-- without a task: as the fate says, or for memory
abbrev pub EndsAs : Fate → Run → Type 0
EndsAs comes run = EndsForMemory run ⊎ HasNoTask (fatal_of comes) (skips_of comes) (warnings_of comes) run

-- ---- a command

abbrev pub GoesOn : Command → Settings → Limits → (was now : Option SeenFiles) → (faults_before faults_after : ℕ)
    → Run → List Talk → List Note → Type 0
GoesOn command settings limits was now before after run talks notes =
    IsUnplanned run talks notes
    ⊎ ((comes : Fate) × IsFate command settings limits was comes × HasPlan comes run
    × Works comes command.endpoint settings.keys settings.config.attempts now before after run talks notes)

abbrev pub DoesOn : Command → Settings → Limits → (faults_before faults_after : ℕ) → Run → Type 0
DoesOn command settings limits before after run =
    IsNothingPlanned run
    ⊎ ((comes : Fate) × IsFate command settings limits None comes × HasPlan comes run × Wants comes before after run)

-- ---- the text

-- the text that is due, with what the command is there to show
abbrev pub HasTextOf : (words : List (List ℕ)) → Option SeenEnv → (before after : Option WireLog) → Run
    → Result Printout OutOfMemory → (missed : Bool) → Type 0
HasTextOf words env before after run text missed = (own : Own) × IsOwn words env before after run own
    × IsTextOf words own.text run text × (own.missed ≡ missed)

-- the same status, whether or not the command is taken for a listing
abbrev pub HasStatusOf : (lists same : Bool) → Option Fatal → Type 0
HasStatusOf lists same None = Unit {0}
HasStatusOf lists same (Some why) = fatal_status lists why ≡ fatal_status same why
