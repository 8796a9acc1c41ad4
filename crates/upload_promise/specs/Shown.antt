-- What a run of at most one small upload shows of itself, and what it promises.
use Rattle.std.specs.Prelude.{◌≡◌, ℕ, false, List, Option, Some, slice_get, None}
use Rattle.s3_model.specs.declared.requests.Ask.{Ask}
use Rattle.s3_model.specs.declared.answers.Class.{Class}
use Rattle.s3_model.specs.declared.outcomes.Cause.{Cause}
use Rattle.s3_model.specs.declared.outcomes.Event.{Event}
use Rattle.s3_model.specs.declared.outcomes.Outcome.{Outcome}
use Rattle.s3_model.specs.declared.settings.Config.{Config}
use Rattle.s3_model.specs.declared.settings.Limits.{Limits}
use Rattle.s3_model.specs.declared.tasks.Task.{Task}
use Rattle.s3_model.specs.declared.tasks.Warning.{Warning}
use Rattle.s3_model.specs.Talks.{Talk, Note}
use Rattle.job_terms.specs.Dispatches.{Dispatched}
use Rattle.run_promise.specs.Settled.{IsSettingOf, RunEnd, RunStart, shown_by}
use Rattle.run_promise.specs.Truthful.{IsTruthful, IsDoneWhereWilling}
use Rattle.job_terms.specs.Attempts.{in_first}
use Rattle.s3_outside.specs.Files.{SeenFiles}
use Rattle.upload_promise.specs.Sources.{calls_between}
use Rattle.upload_promise.specs.Uploads.{IsReadCause}

-- the settings of a run that tries each request once
abbrev pub one_attempt : Config → Config
one_attempt config = record config { attempts = 1 }

-- what a run was given that is no dry one
abbrev pub start_of : Config → Limits → (wires : ℕ) → List Task → (was : SeenFiles) → RunStart
start_of config limits wires tasks was = record {
  config = config;
  limits = limits;
  wires = wires;
  dryrun = false;
  tasks = tasks;
  files = was.store;
}

-- what a run came to that used the first wire alone
abbrev pub end_of : (status : ℕ) → List Outcome → List Warning → List Event → List Talk → List Note
    → (was now : SeenFiles) → RunEnd
end_of status outcomes warnings journal talks notes was now = record {
  status = status;
  outcomes = outcomes;
  warnings = warnings;
  journal = journal;
  logs = in_first talks;
  notes = in_first notes;
  files = now.store;
  file_calls = calls_between was now;
  refused_page = None;
}

-- the calls on files show that one of the task failed so: a read failed, or the file gave fewer bytes than planned
abbrev pub CallFailed : (path : List ℕ) → (now : SeenFiles) → (faults_before faults_after : ℕ) → List Task → ℕ
    → Cause → Type 0
CallFailed path now before after tasks n why = (task : Task) × (slice_get tasks n ≡ Some task) × IsReadCause
    (Some now) path task.size before after why

-- `Shows ask limit talk class bytes`: the talk has that class for the ask, and its answer that body.
-- `HasStatus ask limit talk status`: its answer has that HTTP status.
-- `request_text ask body moment`: the text of a request, signed at that moment.
-- `Plans refused_page`: the planning jobs, in order, are those that the command needs, and the page of the job of that
-- number was refused by its content.
module _ (Shows : Ask → ℕ → Talk → Class → List ℕ → Type 0) (HasStatus : Ask → ℕ → Talk → ℕ → Type 0)
    (request_text : Ask → List ℕ → ℕ → List ℕ) (host : List ℕ) (port : ℕ)
    (Plans : Option ℕ → List Dispatched → Type 0) where
  -- Over every honest service the outcomes are true, over a willing one the tasks are done, and the setting is that of
  -- a run with this start and this end. `Fails n why`: the calls on files show that one of task n failed so.
  pub record KeepsPromise (Fails : ℕ → Cause → Type 0) (start : RunStart) (came : RunEnd) (cancelled_at : Option ℕ)
      (OutputFailed ListingEnded : Type 0) : Type 0 where
    pub truthful : IsTruthful Shows HasStatus request_text host port Plans Fails (shown_by start came cancelled_at)
    pub willing : IsDoneWhereWilling Shows request_text host port Plans (shown_by start came cancelled_at)
    pub settles : IsSettingOf (shown_by start came cancelled_at) start.wires came.warnings OutputFailed ListingEnded
