-- Runs that ask questions of their planning over a desk, and give no job of a task.
use Rattle.std.specs.Prelude.{◌≡◌, ◌⊎◌, ℕ, Bool, true, List, [], Option, Some, None, Contains, filter_map, length}
use Rattle.std.specs.Prelude.{slice_get}
use Rattle.answer_classes.specs.Showing.{HasStatus, Shows}
use Rattle.attempts.specs.Attempts.{text_of}
use Rattle.lane_jobs.specs.Lanes.{SeenCarrier, SeenLane}
use Rattle.lane_laws.specs.Runs.{RanOut}
use Rattle.list_walk.specs.Pages.{IsRefusedPage}
use Rattle.planning_laws.specs.Asking.{AskFor}
use Rattle.planning_questions.specs.Questions.{Question, trace_of}
use Rattle.run_promise.specs.FileCalls.{AreFilesApart}
use Rattle.run_promise.specs.FileOutcomes.{IsByFiles}
use Rattle.run_promise.specs.Planning.{Need, PlansFor}
use Rattle.run_promise.specs.Settled.{RunEnd, RunStart, lanes_of, left_by, untimed_by}
use Rattle.run_traces.specs.Traces.{journal_of}
use Rattle.s3_model.specs.Talks.{WireLog}
use Rattle.s3_model.specs.Validity.{IsValidConfig, IsValidLimits}
use Rattle.s3_model.specs.declared.outcomes.Cause.{Cause}
use Rattle.s3_model.specs.declared.outcomes.Outcome.{Outcome}
use Rattle.s3_model.specs.declared.outcomes.Outcome.TheVariants as outcome
use Rattle.s3_model.specs.declared.tasks.Task.{Task}
use Rattle.trace_laws.specs.Joined.{HaveGained, IsJoined}
use Rattle.upload_promise.specs.Shown.{KeepsPromise}
use Rattle.world_laws.specs.Promises.{IsByRequests}
use Rattle.world_laws.specs.Tasks.{AreApart}

-- one for each task, and each Dry, which only a dry run shows
pub record AreDry (start : RunStart) (outcomes : List Outcome) : Type 0 where
  pub as_many : length outcomes ≡ length start.tasks
  pub each : (n : ℕ) (how : Outcome) → slice_get outcomes n ≡ Some how
      → (how ≡ outcome.Dry) × (start.dryrun ≡ true)

-- What a plan makes sure of: each task is one that requests or calls on files decide, and they are apart.
pub record ArePlanned (start : RunStart) : Type 0 where
  pub tasks : (n : ℕ) (task : Task) → slice_get start.tasks n ≡ Some task → IsByRequests task ⊎ IsByFiles task
  pub apart : AreApart start.tasks
  pub files_apart : AreFilesApart start.files.held start.tasks

-- A run that did nothing for a task: its files are as before, no call changed them and no warning names one, and its
-- outcomes are Dry, or there are none since memory ran out.
pub record IsIdle (start : RunStart) (came : RunEnd) : Type 0 where
  pub configured : IsValidConfig start.config
  pub limits : IsValidLimits start.limits
  pub planned : ArePlanned start
  pub outcomes : AreDry start came.outcomes ⊎ ((came.status ≡ 70) × (came.outcomes ≡ []))
  pub quiet : came.file_calls ≡ []
  pub untouched : came.files.held ≡ start.files.held
  pub none_left : filter_map left_by came.warnings ≡ []
  pub none_untimed : filter_map untimed_by came.warnings ≡ []

-- `seen wire`: all that is seen of the wire, if it is
module _ {W : Type 0} (seen : W → Option WireLog) where
  -- All that it gave to its lanes, which were joined, are these questions.
  pub record IsDeskRun (carrier : SeenCarrier) (start : RunStart) (came : RunEnd) (befores afters : List (SeenLane W))
      (questions : List Question) : Type 0 where
    pub idle : IsIdle start came
    pub lanes : length befores ≡ lanes_of start.config start.wires
    pub attempts : carrier.attempts ≡ start.config.attempts
    pub joined : IsJoined seen carrier (trace_of 0 questions) befores afters
    pub journal : came.journal ≡ journal_of (trace_of 0 questions)
    -- memory ran out for a question only where the status says so
    pub wants : (q : Question) → Contains questions q → RanOut q.carried.ending → came.status ≡ 70

  -- Where its questions ask for the needs, and its wires gained what it shows, it keeps its promise. `wanting`: memory
  -- ran out in the planning; `Fails n why`: the calls on files show that one of task n failed so.
  abbrev pub DeskRunsKeepPromise : (Fails : ℕ → Cause → Type 0) → Type 0
  DeskRunsKeepPromise Fails = (carrier : SeenCarrier) (start : RunStart) (came : RunEnd)
      (befores afters : List (SeenLane W)) (questions : List Question) (needs : List Need) (wanting : Bool)
      → IsDeskRun carrier start came befores afters questions
      → HaveGained seen befores afters came.logs came.notes
      → AskFor IsRefusedPage (wanting ≡ true) came.refused_page needs questions
      → KeepsPromise Shows HasStatus (text_of carrier.endpoint carrier.keys) carrier.endpoint.host
      carrier.endpoint.port (λ page. PlansFor Shows IsRefusedPage (wanting ≡ true) page needs) Fails start came None ⊥ ⊥
