-- What a manager gives of the schedule of its run, and what is left to its lanes.
use Rattle.std.specs.Prelude.{◌≡◌, ◌≤◌, ◌++◌, ◌∷◌, ℕ, List}
use Rattle.job_terms.specs.Buffers.{KeepsBuffers}
use Rattle.job_terms.specs.Dispatches.{Dispatched}
use Rattle.manager_core.specs.Formed.{IsJobFor}
use Rattle.manager_core.specs.Kept.{SeenManager}
use Rattle.manager_core.specs.Running.{IsRunning, Start}
use Rattle.manager_core.specs.declared.due.Due.TheVariants as due
use Rattle.manager_moves.specs.Runs.{Events, Sent, Shared, journal_of}
use Rattle.manager_moves.specs.declared.moves.Move.TheVariants as move
use Rattle.run_needs.specs.Moves.{move_count, run_moves}
use Rattle.run_promise.specs.Schedule.{IsSchedule, Setting}
use Rattle.run_schedule.specs.Runs.{KeepsPlanning}
use Rattle.s3_model.specs.Talks.{Note, Talk}
use Rattle.s3_model.specs.declared.answers.Class.{Class}
use Rattle.s3_model.specs.declared.requests.Ask.{Ask}
use Rattle.s3_model.specs.declared.requests.Op.{Op}
use Rattle.task_schedule.specs.Journals.{KeepsSchedule, ShowOne}
use Rattle.whole_runs.specs.Buffers.{TakeNoParts}
use Rattle.whole_runs.specs.Ended.{IsAtEnd, IsRunOver, IsShownByLanes}
use Rattle.whole_runs.specs.Given.{AreHandedOut, Jobs}

-- the setting has the configuration, the limits and the tasks that the run was given
pub record IsSettingOfRun (start : Start) (setting : Setting) : Type 0 where
  pub config_is : setting.config ≡ start.config
  pub limits_are : setting.limits ≡ start.limits
  pub tasks_are : setting.tasks ≡ start.plan.tasks.items

-- these events happened in a run of a manager, and its next move is the end
pub record IsEndOf (start : Start) (s : Shared) (events : Events) (m : SeenManager) : Type 0 where
  pub running : IsRunning start s events m
  pub is : m.due ≡ due.Next move.End

-- ---- what the manager gives

-- The run is over, and its works are those of its plan.
abbrev pub EndsAreWhole : Type 0
EndsAreWhole = (start : Start) (s : Shared) (events : Events) (m : SeenManager) (setting : Setting)
    → IsEndOf start s events m → IsSettingOfRun start setting → IsAtEnd s setting events × IsRunOver s events

-- At each moment the journal is that of the planning and behind it that of the run. It keeps to the buffers where the
-- planning takes no parts, and no more has happened than the tasks can come to, cancels apart.
pub record IsToldRun (start : Start) (s : Shared) (events : Events) (m : SeenManager) : Type 0 where
  pub journal : m.journal.items ≡ start.planning ++ journal_of events
  pub parts : TakeNoParts start.planning → KeepsBuffers s.buffers m.journal.items
  pub moves : move_count events ≤ run_moves s.works

abbrev pub JournalsAreTold : Type 0
JournalsAreTold = (start : Start) (s : Shared) (events : Events) (m : SeenManager) → IsRunning start s events m
    → IsToldRun start s events m

-- each job of the run is one that `Manager::job` handed out, in a run in which these events had happened
abbrev pub AreOfManager : Start → Shared → Events → Jobs → Type 0
AreOfManager start s events jobs = (later before : Events) (n number lane : ℕ) (of_op : Op)
    → events ≡ later ++ Sent n of_op number lane ∷ before
    → (m : SeenManager) × IsRunning start s before m × IsJobFor s before n of_op number m (jobs before)

-- So they are what the histories of their tasks say.
abbrev pub JobsAreHandedOut : Type 0
JobsAreHandedOut = (start : Start) (s : Shared) (events : Events) (jobs : Jobs) (setting : Setting)
    → IsSettingOfRun start setting → AreOfManager start s events jobs → AreHandedOut s setting.tasks events jobs

-- ---- the schedule

-- `Shows ask limit talk class bytes`: the talk has that class for the ask, and its answer that body;
-- `request_text ask body moment`: the text of a request, signed at that moment
module _ (Shows : Ask → ℕ → Talk → Class → List ℕ → Type 0) where
  module _ (request_text : Ask → List ℕ → ℕ → List ℕ) (host : List ℕ) (port : ℕ) where
    -- A run of a manager at its end, with the jobs that it handed out, and what lanes and logs show of them.
    pub record IsRunOfManager (start : Start) (s : Shared) (setting : Setting) (events : Events) (m : SeenManager)
        (logs : ℕ → List Talk) (notes : ℕ → List Note) (jobs : Jobs) (dispatched coming : List Dispatched)
        : Type 0 where
      pub ended : IsEndOf start s events m
      pub setting_is : IsSettingOfRun start setting
      pub jobs_are : AreOfManager start s events jobs
      pub shown : IsShownByLanes Shows request_text host port s setting start.planning events logs notes jobs dispatched
          coming

  -- Its tasks keep to the schedule.
  abbrev pub ManagerKeepsTasks : Type 0
  ManagerKeepsTasks = (request_text : Ask → List ℕ → ℕ → List ℕ) (host : List ℕ) (port : ℕ) (start : Start)
      (s : Shared) (setting : Setting) (events : Events) (m : SeenManager) (logs : ℕ → List Talk)
      (notes : ℕ → List Note) (jobs : Jobs) (dispatched coming : List Dispatched) → ShowOne Shows
      → IsRunOfManager request_text host port start s setting events m logs notes jobs dispatched coming
      → KeepsSchedule Shows setting dispatched coming

  -- And with a planning that keeps to it, the run does in whole.
  abbrev pub ManagerKeepsSchedule : (Plans : List Dispatched → Type 0) → Type 0
  ManagerKeepsSchedule Plans = (request_text : Ask → List ℕ → ℕ → List ℕ) (host : List ℕ) (port : ℕ) (start : Start)
      (s : Shared) (setting : Setting) (events : Events) (m : SeenManager) (logs : ℕ → List Talk)
      (notes : ℕ → List Note) (jobs : Jobs) (dispatched coming : List Dispatched) → ShowOne Shows
      → IsRunOfManager request_text host port start s setting events m logs notes jobs dispatched coming
      → KeepsPlanning Shows setting Plans dispatched → IsSchedule Shows setting Plans dispatched coming
