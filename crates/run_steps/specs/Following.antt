-- How the jobs of tasks follow a run.
use Rattle.std.specs.Prelude.{◌≡◌, ◌<◌, ◌==◌, [], ◌∷◌, ℕ, Bool, true, false, List, Option, Some, None, IsSomeAnd}
use Rattle.std.specs.Prelude.{get_or, length, replicate, slice_get}
use Rattle.kept_jobs.specs.Slots.{HasSlot}
use Rattle.manager_moves.specs.Laws.{IsRun}
use Rattle.manager_moves.specs.Runs.{Back, Called, Event, Events, Lined, Made, Sent, Shared, Stopped, made_count}
use Rattle.manager_moves.specs.Runs.{outcome_in}
use Rattle.s3_model.specs.declared.outcomes.Outcome.{Outcome}
use Rattle.s3_model.specs.declared.outcomes.Reason.{Reason}
use Rattle.s3_model.specs.declared.requests.Op.{Op}
use Rattle.s3_model.specs.declared.tasks.Task.{Task}
use Rattle.step_jobs.specs.Shares.{HasAll, SeenSteps}
use Rattle.step_laws.specs.Following.{IsTakenFor}
use Rattle.task_acts.specs.declared.work.Work.{Work}
use Rattle.task_progress.specs.Progress.{HasPiece}
use Rattle.run_steps.specs.Steps.{HoldSteps, settled_step, settled_steps}

-- ---- what changes

-- nothing changed but the place of that task
pub record IsAtOne (task : ℕ) (steps now : List (Option SeenSteps)) : Type 0 where
  pub count : length now ≡ length steps
  pub within : task < length steps
  pub others : (n : ℕ) → (task == n) ≡ false → get_or now n None ≡ get_or steps n None

-- each outcome that is kept is the one of the run
abbrev pub TellOutcomes : Shared → Events → List (Option Outcome) → Type 0
TellOutcomes s events outcomes = (n : ℕ) (w : Work) → slice_get s.works n ≡ Some w
    → get_or outcomes n None ≡ outcome_in w n events

-- what happened to one task
abbrev pub IsOfOne : (task : ℕ) → Event → Type 0
IsOfOne task (Sent n of_op number lane) = n ≡ task
IsOfOne task (Called n called result) = n ≡ task
IsOfOne task (Back lane carried) = carried.job.id.task ≡ Some task
IsOfOne task event = ⊥

-- ---- tasks that are made

abbrev pub JobsBegin : Type 0
JobsBegin = (s : Shared) (tasks : List Task) → HoldSteps s [] tasks (replicate (length tasks) None)

-- all jobs of that task and its work
abbrev pub IsFull : Task → Work → Option SeenSteps → Type 0
IsFull task w kept = IsSomeAnd kept (λ j. (j.task ≡ task) × (j.work ≡ w) × HasAll j)

-- the next task is made with its jobs, unless memory ran out for it, and lets them go if it has ended at once
abbrev pub JobsMade : Type 0
JobsMade = (s : Shared) (events : Events) (fits : Bool) (tasks : List Task) (steps now : List (Option SeenSteps))
    (outcomes : List (Option Outcome)) → HoldSteps s events tasks steps → IsAtOne (made_count events) steps now
    → (fits ≡ true → (task : Task) (w : Work) → slice_get tasks (made_count events) ≡ Some task
    → slice_get s.works (made_count events) ≡ Some w → IsFull task w (get_or now (made_count events) None))
    → TellOutcomes s (Made fits ∷ events) outcomes
    → HoldSteps s (Made fits ∷ events) tasks (settled_steps (made_count events) outcomes now)

-- ---- jobs that are given

-- that job of that task is given in a run, in which each task has a piece
pub record IsSentIn (s : Shared) (events : Events) (task : ℕ) (of_op : Op) (number lane : ℕ) : Type 0 where
  pub run : IsRun s (Sent task of_op number lane ∷ events)
  pub pieces : (n : ℕ) (w : Work) → slice_get s.works n ≡ Some w → HasPiece w

-- its share was taken as it was formed
pub record IsTakenAt (s : Shared) (task : ℕ) (of_op : Op) (number : ℕ) (steps now : List (Option SeenSteps)) : Type 0
  where
    pub jobs : SeenSteps
    pub was : get_or steps task None ≡ Some jobs
    pub left : SeenSteps
    pub is : get_or now task None ≡ Some left
    pub taken : IsTakenFor of_op number jobs left
    pub slot : (w : Work) → slice_get s.works task ≡ Some w → HasSlot w of_op number

abbrev pub GivenFirst : Type 0
GivenFirst = (s : Shared) (events : Events) (task : ℕ) (of_op : Op) (number lane : ℕ) (tasks : List Task)
    (steps now : List (Option SeenSteps)) → IsSentIn s events task of_op number lane → HoldSteps s events tasks steps
    → IsAtOne task steps now → IsTakenAt s task of_op number steps now
    → HoldSteps s (Sent task of_op number lane ∷ events) tasks now

abbrev pub GivenAgain : Type 0
GivenAgain = (s : Shared) (events : Events) (task : ℕ) (of_op : Op) (number lane : ℕ) (tasks : List Task)
    (steps : List (Option SeenSteps)) → IsSentIn s events task of_op number lane → HoldSteps s events tasks steps
    → HoldSteps s (Sent task of_op number lane ∷ events) tasks steps

-- ---- tasks that end

-- a call was made for a task, or a job of it came back
abbrev pub OneSettles : Type 0
OneSettles = (s : Shared) (events : Events) (event : Event) (task : ℕ) (tasks : List Task)
    (steps : List (Option SeenSteps)) (outcomes : List (Option Outcome)) → IsOfOne task event → task < length steps
    → HoldSteps s events tasks steps → TellOutcomes s (event ∷ events) outcomes
    → HoldSteps s (event ∷ events) tasks (settled_steps task outcomes steps)

-- the run was cancelled
abbrev pub EachSettles : Type 0
EachSettles = (s : Shared) (events : Events) (reason : Reason) (tasks : List Task) (steps now : List (Option SeenSteps))
    (outcomes : List (Option Outcome)) → HoldSteps s events tasks steps → length now ≡ length steps
    → ((n : ℕ) → n < length steps → get_or now n None ≡ settled_step outcomes n (get_or steps n None))
    → TellOutcomes s (Stopped reason ∷ events) outcomes → HoldSteps s (Stopped reason ∷ events) tasks now

-- a line was due
abbrev pub LinesLeaveJobs : Type 0
LinesLeaveJobs = (s : Shared) (events : Events) (tasks : List Task) (steps : List (Option SeenSteps))
    → HoldSteps s events tasks steps → HoldSteps s (Lined ∷ events) tasks steps
