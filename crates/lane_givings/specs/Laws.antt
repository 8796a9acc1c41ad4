-- What is true of the jobs in the lanes, in every run.
use Rattle.std.specs.Prelude.{◌≡◌, ◌++◌, ◌<◌, [], ◌∷◌, ℕ, false, List, Some, drop, get_or, length, replicate, set}
use Rattle.std.specs.Prelude.{slice_get}
use Rattle.jobs.specs.Endings.{IsEnded, SeenCarried}
use Rattle.jobs.specs.Jobs.{SeenJob}
use Rattle.manager_moves.specs.Lanes.{jobs_in}
use Rattle.manager_moves.specs.Laws.{IsRun, MayFollow}
use Rattle.manager_moves.specs.Runs.{Back, Event, Events, Sent, Shared}
use Rattle.queue_laws.specs.Holding.{is_of_lanes}
use Rattle.s3_model.specs.declared.outcomes.JobId.{JobId}
use Rattle.s3_model.specs.declared.requests.Op.{Op}
use Rattle.task_acts.specs.declared.acts.Act.TheVariants as act
use Rattle.task_acts.specs.declared.acts.Stage.TheVariants as at
use Rattle.task_acts.specs.declared.work.Work.{Work}
use Rattle.task_acts.specs.Histories.{History}
use Rattle.task_acts.specs.Kept.{IsHistory, tries_before}
use Rattle.task_acts.specs.Stages.{stage}
use Rattle.lane_givings.specs.Givings.{HasRoom, HoldJobs, IsGivenNext, IsOut, IsSameJob}

-- A job in a lane is out.
abbrev pub JobsInLanesAreOut : Type 0
JobsInLanesAreOut = (s : Shared) (events : Events) (lane place : ℕ) (id : JobId) → IsRun s events
    → slice_get (jobs_in lane events) place ≡ Some id → IsOut s events id

-- It stands in one place of one lane.
abbrev pub JobsStandOnce : Type 0
JobsStandOnce = (s : Shared) (events : Events) (lane other place elsewhere : ℕ) (id : JobId) → IsRun s events
    → slice_get (jobs_in lane events) place ≡ Some id → slice_get (jobs_in other events) elsewhere ≡ Some id
    → (lane ≡ other) × (place ≡ elsewhere)

-- Before a job comes back for the first time it has made no attempt.
abbrev pub FirstHasNone : Type 0
FirstHasNone = (w : Work) (history : History) (of_op : Op) (number : ℕ) → IsHistory w history
    → stage w history (act.Send of_op number) ≡ at.Out → tries_before history (act.Send of_op number) ≡ 0

-- ---- what lanes hold

-- At the start no job is out.
abbrev pub NoneIsOut : Type 0
NoneIsOut = (room : ℕ) (s : Shared) (count : ℕ) → HoldJobs room s [] (replicate count [])

-- A job that is given stands behind the others of its lane.
abbrev pub GivenJoins : Type 0
GivenJoins = (room : ℕ) (s : Shared) (events : Events) (lanes : List (List SeenJob)) (task : ℕ) (of_op : Op)
    (number lane : ℕ) (job : SeenJob) → IsRun s (Sent task of_op number lane ∷ events) → HoldJobs room s events lanes
    → IsGivenNext room s events task of_op number job → lane < length lanes
    → HoldJobs room s (Sent task of_op number lane ∷ events) (set lanes lane (get_or lanes lane [] ++ job ∷ []))

-- The oldest job of a lane may come back, however it ended.
abbrev pub OldestMayReturn : Type 0
OldestMayReturn = (room : ℕ) (s : Shared) (events : Events) (lanes : List (List SeenJob)) (lane : ℕ) (given : SeenJob)
    (carried : SeenCarried) → IsRun s events → HoldJobs room s events lanes
    → slice_get (get_or lanes lane []) 0 ≡ Some given → IsSameJob given carried.job
    → IsEnded carried.ending carried.job.id.op carried.job.part carried.job.cell carried.tries
    → MayFollow s events (Back lane carried)

-- Its part has the room that each part has.
abbrev pub JobsHaveRoom : Type 0
JobsHaveRoom = (room : ℕ) (s : Shared) (events : Events) (lanes : List (List SeenJob)) (lane place : ℕ) (job : SeenJob)
    → IsRun s events → HoldJobs room s events lanes → slice_get (get_or lanes lane []) place ≡ Some job
    → HasRoom room job.part

-- The others of its lane stay.
abbrev pub ReturnedLeaves : Type 0
ReturnedLeaves = (room : ℕ) (s : Shared) (events : Events) (lanes : List (List SeenJob)) (lane : ℕ)
    (carried : SeenCarried) → IsRun s (Back lane carried ∷ events) → HoldJobs room s events lanes
    → HasRoom room carried.job.part
    → HoldJobs room s (Back lane carried ∷ events) (set lanes lane (drop 1 (get_or lanes lane [])))

-- Nothing else changes what lanes hold.
abbrev pub OthersLeave : Type 0
OthersLeave = (room : ℕ) (s : Shared) (events : Events) (lanes : List (List SeenJob)) (event : Event)
    → is_of_lanes event ≡ false → IsRun s (event ∷ events) → HoldJobs room s events lanes
    → HoldJobs room s (event ∷ events) lanes
