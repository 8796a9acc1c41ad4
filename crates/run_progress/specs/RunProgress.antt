-- Runs get on: they end only where every task has ended, and wait only for jobs that are out.
use Rattle.std.specs.Prelude.{◌≡◌, ◌≤◌, ◌<◌, ℕ, true, Some, Contains, IsSome, length, slice_get}
use Rattle.job_terms.specs.Jobs.{job_of}
use Rattle.s3_model.specs.declared.requests.Op.{Op}
use Rattle.task_acts.specs.declared.acts.Act.TheVariants as act
use Rattle.task_acts.specs.declared.work.Work.{Work}
use Rattle.task_acts.specs.Stages.{is_out, stage}
use Rattle.manager_moves.specs.declared.moves.Move.TheVariants as move
use Rattle.manager_moves.specs.Lanes.{jobs_in, out_in}
use Rattle.manager_moves.specs.Laws.{IsRun}
use Rattle.manager_moves.specs.Moves.{next_move}
use Rattle.manager_moves.specs.Runs.{Events, Shared, lined_count, made_count, outcome_in, share}
use Rattle.task_progress.specs.Progress.{HasPiece}

-- what a run needs to get on
pub record HasMeans (s : Shared) : Type 0 where
  pub lanes : 1 ≤ s.lanes
  pub depth : 1 ≤ s.depth
  pub queue : 1 ≤ s.queue
  pub buffers : 1 ≤ s.buffers
  pub pieces : (n : ℕ) (w : Work) → slice_get s.works n ≡ Some w → HasPiece w

-- The end comes once every task was made and its line was due.
abbrev pub RunsEndWhole : Type 0
RunsEndWhole = (s : Shared) (events : Events) → HasMeans s → IsRun s events → next_move s events ≡ move.End
    → (made_count events ≡ length s.works) × (lined_count events ≡ length s.works)

-- Each task has its outcome by then.
abbrev pub TasksHaveEnded : Type 0
TasksHaveEnded = (s : Shared) (events : Events) (n : ℕ) (w : Work) → HasMeans s → IsRun s events
    → next_move s events ≡ move.End → slice_get s.works n ≡ Some w → IsSome (outcome_in w n events)

-- A wait is for a job that is in a lane.
abbrev pub WaitsAreForJobs : Type 0
WaitsAreForJobs = (s : Shared) (events : Events) → next_move s events ≡ move.Wait
    → (lane : ℕ) × (lane < s.lanes) × (1 ≤ out_in lane events)

-- A job that is out is in a lane.
abbrev pub OutIsInLanes : Type 0
OutIsInLanes = (s : Shared) (events : Events) (n : ℕ) (w : Work) (of_op : Op) (number : ℕ) → IsRun s events
    → slice_get s.works n ≡ Some w → is_out (stage w (share w n events) (act.Send of_op number)) ≡ true
    → (lane : ℕ) × Contains (jobs_in lane events) (job_of n of_op number)
