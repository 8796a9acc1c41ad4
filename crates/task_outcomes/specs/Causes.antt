-- Why a task of a run ended as it did: its outcome has the cause that the promise of a run says.
use Rattle.std.specs.Prelude.{◌≡◌, ◌++◌, ◌∷◌, ℕ, true, List, Some, Contains, slice_get}
use Rattle.jobs.specs.Endings.{SeenCarried}
use Rattle.jobs.specs.declared.ending.Ending.TheVariants as ending
use Rattle.manager_moves.specs.Runs.{Back, Called, Events, Shared, outcome_in}
use Rattle.job_terms.specs.Dispatches.{Attempt, Dispatched, last_of}
use Rattle.run_promise.specs.Outcomes.{HasOutcome, IsFilePlace}
use Rattle.run_promise.specs.Schedule.{Setting}
use Rattle.run_promise.specs.Settled.{cause_of, is_memory}
use Rattle.s3_model.specs.Talks.{Talk}
use Rattle.s3_model.specs.declared.answers.Class.{Class}
use Rattle.s3_model.specs.declared.outcomes.Cause.{Cause}
use Rattle.s3_model.specs.declared.outcomes.Outcome.{Outcome}
use Rattle.s3_model.specs.declared.requests.Ask.{Ask}
use Rattle.s3_model.specs.declared.tasks.Kind.{Kind}
use Rattle.s3_model.specs.declared.tasks.Kind.TheVariants as kind
use Rattle.s3_model.specs.declared.tasks.Task.{Task}
use Rattle.task_acts.specs.Failures.{file_cause}
use Rattle.task_acts.specs.declared.acts.Act.{Act}
use Rattle.task_acts.specs.declared.acts.FileCame.{FileCame}
use Rattle.task_acts.specs.declared.work.Work.{Work}
use Rattle.task_schedule.specs.Journals.{IsRunOf, ShowOne, place_after}

-- a moved upload takes a file, and the removal of a file moves nothing
abbrev pub MovesSource : Task → Kind → Type 0
MovesSource task kind.Upload = IsFilePlace task.source
MovesSource task kind.RemoveFile = ⊥
MovesSource task of_kind = Unit {0}

-- `Shows ask limit talk class bytes`: the talk has that class for the ask, and its answer that body;
-- `HasStatus ask limit talk status`: its answer has that HTTP status;
-- `CallFailed n why`: the calls on files show that one of task n failed so
module _ (Shows : Ask → ℕ → Talk → Class → List ℕ → Type 0) (HasStatus : Ask → ℕ → Talk → ℕ → Type 0)
    (CallFailed : ℕ → Cause → Type 0) where
  -- an answer has one status
  abbrev pub HaveOneStatus : Type 0
  HaveOneStatus = (asked : Ask) (limit : ℕ) (talk : Talk) (one same : ℕ) → HasStatus asked limit talk one
      → HasStatus asked limit talk same → one ≡ same

  -- a job that was refused has the status of its last answer
  abbrev pub StatusesAreShown : (planned : ℕ) → Events → List Dispatched → Type 0
  StatusesAreShown planned events dispatched = (later before : Events) (lane : ℕ) (carried : SeenCarried)
      (c : Dispatched) (status : ℕ) (code message : List ℕ) → events ≡ later ++ Back lane carried ∷ before
      → Contains dispatched c → c.dispatch.came_at ≡ Some (place_after planned before)
      → carried.ending ≡ ending.Refused status code message
      → (attempt : Attempt) × (last_of c.dispatch.attempts ≡ Some attempt)
      × HasStatus c.ask c.limit attempt.talk status

  -- what the causes of tasks are told by, beside their talks
  pub record IsTold (s : Shared) (setting : Setting) (planned : ℕ) (events : Events) (dispatched : List Dispatched)
      : Type 0 where
    pub memory : (n : ℕ) (w : Work) (how : Outcome) → slice_get s.works n ≡ Some w
        → outcome_in w n events ≡ Some how → is_memory (cause_of (Some how)) ≡ true
        → setting.wanted_memory (Some n) ≡ true
    pub calls : (n : ℕ) (called : Act) (result : FileCame) (why : Cause) → Contains events (Called n called result)
        → file_cause called result ≡ Some why → CallFailed n why
    pub statuses : StatusesAreShown planned events dispatched
    pub moves : (n : ℕ) (task : Task) → slice_get setting.tasks n ≡ Some task → task.moves ≡ true
        → MovesSource task task.kind

  -- Each outcome has its cause.
  abbrev pub OutcomesHaveCauses : Type 0
  OutcomesHaveCauses = (s : Shared) (setting : Setting) (planned : ℕ) (events : Events)
      (dispatched coming : List Dispatched) → ShowOne Shows → HaveOneStatus
      → IsRunOf Shows s setting planned events dispatched coming → IsTold s setting planned events dispatched
      → (n : ℕ) (w : Work) (task : Task) (how : Outcome) → slice_get s.works n ≡ Some w
      → slice_get setting.tasks n ≡ Some task → outcome_in w n events ≡ Some how
      → HasOutcome Shows HasStatus CallFailed setting dispatched coming n task how
