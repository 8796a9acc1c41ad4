-- What a run comes to: its status, what it prints, and what it promises.
use Rattle.std.specs.Prelude.{◌≡◌, ◌≢◌, ◌⊎◌, ℕ, Bool, true, false, List, [], Option, Some, None, IfSome}
use Rattle.s3_model.specs.declared.faults.WalkFault.TheVariants as walk
use Rattle.s3_model.specs.declared.places.Endpoint.{Endpoint}
use Rattle.s3_model.specs.declared.settings.Config.{Config}
use Rattle.s3_model.specs.declared.settings.Limits.{Limits}
use Rattle.s3_model.specs.declared.settings.Settings.{Settings}
use Rattle.s3_model.specs.Counts.{Rose}
use Rattle.s3_model.specs.Talks.{Talk, Note, WireLog}
use Rattle.s3_outside.specs.Env.{SeenEnv}
use Rattle.s3_outside.specs.Files.{SeenFiles, shape_at}
use Rattle.s3_outside.specs.declared.files.Shape.{Shape}
use Rattle.s3_words.specs.declared.commands.Command.{Command}
use Rattle.answer_classes.specs.Showing.{HasStatus, Shows}
use Rattle.attempts.specs.Attempts.{text_of}
use Rattle.list_walk.specs.Pages.{IsRefusedPage}
use Rattle.job_terms.specs.Dispatches.{Dispatched}
use Rattle.question_runs.specs.Asked.{log_of}
use Rattle.run_promise.specs.Planning.{PlansFor}
use Rattle.s3_words.specs.Options.{is_listing, is_presign}
use Rattle.upload_plans.specs.Commands.{source_path}
use Rattle.upload_plans.specs.Plans.{is_large}
use Rattle.upload_plans.specs.declared.plan.Fate.{Fate}
use Rattle.upload_plans.specs.declared.plan.Fate.TheVariants as fate
use Rattle.run_promise.specs.Settled.{RunEnd, RunStart}
use Rattle.upload_promise.specs.Shown.{CallFailed, KeepsPromise, start_of}
use Rattle.upload_promise.specs.Sources.{calls_between}
use Rattle.run_report.specs.declared.run.Fatal.{Fatal}
use Rattle.run_report.specs.declared.run.Fatal.TheVariants as fatal
use Rattle.run_report.specs.declared.run.Run.{Run}
use Rattle.run_start.specs.Begun.{IsBegun, IsRestOf, StopsInSettings, StopsInWords}
use Rattle.s3_main.specs.Asked.{dries_in, lists_in, needs_in, path_in}
use Rattle.s3_main.specs.DryRuns.{IsShownOnly, MakesDryRun, StopsInDryRun}
use Rattle.dry_runs.specs.Found.{FilesSeen, files_seen}
use Rattle.s3_model.specs.declared.tasks.Task.{Task}
use Rattle.s3_main.specs.Plans.{HasPlan, IsFate, Wants, Works}
use Rattle.run_report.specs.Printed.{IsPrintedAs, Output}
use Rattle.run_report.specs.Statuses.{EndsWith}
use Rattle.run_report.specs.Texts.{HasWarned, Warned, err_text, out_text}
use Rattle.run_show.specs.Listings.{IsListingEnd}
use Rattle.s3_main.specs.Listings.{IsListing}
use Rattle.s3_main.specs.Own.{IsOwn, Own}
use Rattle.s3_main.specs.Urls.{IsPresigned, IsTaskless}

-- ---- the status

-- by the words, and by what the command is there to show
abbrev pub EndsAsShown : (words : List (List ℕ)) → Option SeenEnv → (before after : Option WireLog) → Run
    → (OutputFailed : Type 0) → Type 0
EndsAsShown words env before after run OutputFailed =
    (own : Own) × IsOwn words env before after run own × EndsWith (lists_in words) own.missed run OutputFailed

-- ---- the lines

-- with what the command is there to show, and the warnings of the run where they belong
abbrev pub IsPrinted : (words : List (List ℕ)) → Option SeenEnv → (before after : Option WireLog) → Run
    → (to_out to_err : Output) → Type 0
IsPrinted words env before after run to_out to_err =
    (own : Own) × (warned : Warned) × IsOwn words env before after run own × HasWarned run warned
    × IsPrintedAs run.status (out_text words own.text run) (err_text words warned run) to_out to_err

-- ---- why a run ended before its task

-- why the planning of a command ends, by what stands at the path of its file
abbrev pub StopsPlanning : Command → Settings → Limits → Option SeenFiles → (faults_before faults_after : ℕ) → Fatal
    → Type 0
StopsPlanning command settings limits files before after fatal.Memory = Unit {0}
StopsPlanning command settings limits files before after fatal.NotYet =
    (stands : Shape) × IfSome files (λ seen. shape_at seen.store (source_path command) ≡ stands)
    × (is_large settings.config.threshold stands ≡ true)
StopsPlanning command settings limits files before after (fatal.Walk walk.Files) = Rose before after
StopsPlanning command settings limits files before after (fatal.Plan fault) = IsFate command settings limits files
    (fate.Refused fault)
StopsPlanning command settings limits files before after other = ⊥

abbrev pub StopsInPlan : (words : List (List ℕ)) → Option SeenEnv → Limits → Option SeenFiles
    → (faults_before faults_after : ℕ) → Fatal → Type 0
StopsInPlan words env limits files before after why =
    (command : Command) × (settings : Settings) × IsBegun words env command settings
    × (is_presign command.verb ≡ false) × (is_listing command.verb ≡ false) × (command.mode.dryrun ≡ false)
    × StopsPlanning command settings limits files before after why

-- What the talks show of it is a part of how far the run went.
abbrev pub StopsInListing : (words : List (List ℕ)) → Option SeenEnv → Fatal → Type 0
StopsInListing words env why =
    (command : Command) × (settings : Settings) × IsBegun words env command settings
    × (is_listing command.verb ≡ true) × IsListingEnd command.from why

-- in its words, in its settings, in its plan, in its listing, or in the plan of a dry run
abbrev pub StopsFor : (words : List (List ℕ)) → Option SeenEnv → (env_before env_after : ℕ) → Limits → FilesSeen
    → Fatal → Type 0
StopsFor words env env_before env_after limits files why =
    StopsInWords words why ⊎ StopsInSettings words env env_before env_after why
    ⊎ StopsInPlan words env limits files.was files.faults_before files.faults_after why ⊎ StopsInListing words env why
    ⊎ StopsInDryRun words env limits files why

-- ---- how far it went

-- what ended the run is no answer to a request
abbrev pub IsUnasked : Option Fatal → Type 0
IsUnasked None = ⊥
IsUnasked (Some (fatal.Listing fault)) = ⊥
IsUnasked (Some (fatal.Answer why)) = ⊥
IsUnasked (Some why) = Unit {0}

-- nothing was planned
pub record IsNothingPlanned (run : Run) : Type 0 where
  pub stopped : IsUnasked run.fatal
  pub no_task : run.plan.tasks.items ≡ []
  pub no_skip : run.plan.warnings.items ≡ []
  pub no_warning : run.warnings.items ≡ []
  pub no_outcome : run.outcomes.items ≡ []
  pub no_job : run.journal.items ≡ []

-- and nothing was sent
pub record IsUnplanned (run : Run) (talks : List Talk) (notes : List Note) : Type 0 where
  pub nothing : IsNothingPlanned run
  pub no_talk : talks ≡ []
  pub no_note : notes ≡ []

-- The run began and has the plan of its command's file; its task, if it has one, was uploaded.
pub record IsPlanned (words : List (List ℕ)) (env : Option SeenEnv) (limits : Limits) (was now : Option SeenFiles)
    (faults_before faults_after : ℕ)
    (run : Run) (talks : List Talk) (notes : List Note) : Type 0 where
  pub command : Command
  pub settings : Settings
  pub comes : Fate
  pub begun : IsBegun words env command settings
  pub copies : is_presign command.verb ≡ false
  pub no_listing : is_listing command.verb ≡ false
  pub no_dry_run : command.mode.dryrun ≡ false
  pub fated : IsFate command settings limits was comes
  pub plan : HasPlan comes run
  pub works : Works comes command.endpoint settings.keys settings.config.attempts now faults_before faults_after run
      talks notes

-- no plan was made, or one was, or a URL, or a listing, or a plan was only shown
abbrev pub GoesAs : (words : List (List ℕ)) → Option SeenEnv → Limits → (was now : Option SeenFiles)
    → (faults_before faults_after : ℕ) → Run → List Talk → List Note → Type 0
GoesAs words env limits was now before after run talks notes =
    IsUnplanned run talks notes ⊎ IsPlanned words env limits was now before after run talks notes
    ⊎ IsPresigned words env run talks notes ⊎ IsListing words env run (Some (log_of talks notes))
    ⊎ IsShownOnly words env limits (files_seen was now before after) run talks notes

-- ---- what needs no look at wires, files and variables

pub record IsSomePlanned (words : List (List ℕ)) (limits : Limits) (faults_before faults_after : ℕ)
    (run : Run) : Type 0 where
  pub command : Command
  pub settings : Settings
  pub comes : Fate
  pub rest : IsRestOf words command
  pub copies : is_presign command.verb ≡ false
  pub no_listing : is_listing command.verb ≡ false
  pub no_dry_run : command.mode.dryrun ≡ false
  pub fated : IsFate command settings limits None comes
  pub plan : HasPlan comes run
  pub wants : Wants comes faults_before faults_after run

-- a URL is made, and there is no task
pub record MakesUrl (words : List (List ℕ)) (run : Run) : Type 0 where
  pub command : Command
  pub rest : IsRestOf words command
  pub presign : is_presign command.verb ≡ true
  pub taskless : IsTaskless run

-- a listing, also where the wire shows nothing, and there is no task
abbrev pub MakesListing : (words : List (List ℕ)) → Run → Type 0
MakesListing words run = IsListing words None run None

abbrev pub Undertakes : (words : List (List ℕ)) → Limits → (faults_before faults_after : ℕ) → Run → Type 0
Undertakes words limits before after run =
    IsNothingPlanned run ⊎ IsSomePlanned words limits before after run ⊎ MakesUrl words run
    ⊎ MakesListing words run ⊎ MakesDryRun words limits run

-- ---- the promise

abbrev pub has_no_memory : Option Fatal → Bool
has_no_memory (Some fatal.Memory) = true
has_no_memory why = false

-- The planning of the run asks what its words need, unless memory ran out; and nothing where the run ended by what no
-- request shows. The page of the job of that number was refused by its content, if there is one.
abbrev pub PlansBy : (words : List (List ℕ)) → Option Fatal → (refused_page : Option ℕ) → List Dispatched → Type 0
PlansBy words why refused_page =
    PlansFor Shows IsRefusedPage (has_no_memory why ≡ true) refused_page (needs_in words why)

-- what a run was given: its settings, its tasks and the files
abbrev pub start_for : (words : List (List ℕ)) → Config → Limits → (wires : ℕ) → List Task → (was : SeenFiles)
    → RunStart
start_for words config limits wires tasks was =
    record (start_of config limits wires tasks was) { dryrun = dries_in words }

-- the files before and after, with their counts of faults
pub record FilesOver : Type 0 where
  pub was : SeenFiles
  pub now : SeenFiles
  pub faults_before : ℕ
  pub faults_after : ℕ

abbrev pub files_over : (was now : SeenFiles) → (faults_before faults_after : ℕ) → FilesOver
files_over was now faults_before faults_after = record {
  was = was;
  now = now;
  faults_before = faults_before;
  faults_after = faults_after;
}

-- what the run came to, by its record, with what the wires gained
abbrev pub end_for : Run → (refused_page : Option ℕ) → (logs : ℕ → List Talk) → (notes : ℕ → List Note) → (was now : SeenFiles) → RunEnd
end_for run refused_page logs notes was now = record {
  status = run.status;
  outcomes = run.outcomes.items;
  warnings = run.warnings.items;
  journal = run.journal.items;
  logs = logs;
  notes = notes;
  files = now.store;
  file_calls = calls_between was now;
  refused_page = refused_page;
}

-- Over every honest service the outcomes are true, and over a willing one the task is done, or dry where the words say
-- so. The endpoint is the command's and the settings are those of the variables and files, where a request was sent.
-- Somewhere in its journal the run was cancelled, or nowhere.
pub record IsTrue (words : List (List ℕ)) (env : Option SeenEnv) (limits : Limits) (wires : ℕ) (over : FilesOver)
    (run : Run) (logs : ℕ → List Talk) (notes : ℕ → List Note) : Type 0 where
  pub endpoint : Endpoint
  pub settings : Settings
  pub cancelled_at : Option ℕ
  pub refused_page : Option ℕ
  pub begun : run.journal.items ≢ [] → (command : Command) × IsBegun words env command settings
      × (command.endpoint ≡ endpoint)
  pub keeps : KeepsPromise Shows HasStatus (text_of endpoint settings.keys) endpoint.host endpoint.port
      (PlansBy words run.fatal)
      (CallFailed (path_in words) over.now over.faults_before over.faults_after run.plan.tasks.items)
      (start_for words settings.config limits wires run.plan.tasks.items over.was)
      (end_for run refused_page logs notes over.was over.now) cancelled_at ⊥ ⊥

-- where the files are seen before and after
abbrev pub IfSeen : (was now : Option SeenFiles) → (SeenFiles → SeenFiles → Type 0) → Type 0
IfSeen was None P = Unit {0}
IfSeen None (Some now) P = Unit {0}
IfSeen (Some was) (Some now) P = P was now
