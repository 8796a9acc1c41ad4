-- What the rule of moves keeps, in every run.
use Rattle.std.specs.Prelude.{◌≡◌, ◌≢◌, ◌≤◌, ◌<◌, ◌+◌, [], ◌∷◌, ℕ, zero, suc, filter, length, Option, Some, None, is_some, slice_get}
use Rattle.jobs.specs.Endings.{SeenCarried}
use Rattle.job_terms.specs.Buffers.{KeepsBuffers, holds_buffer}
use Rattle.s3_model.specs.declared.outcomes.JobId.{JobId}
use Rattle.s3_model.specs.declared.outcomes.Reason.TheVariants as reason_of
use Rattle.task_acts.specs.declared.work.Work.{Work}
use Rattle.task_acts.specs.Kept.{IsHistory, MayCome, MayHappen}
use Rattle.task_acts.specs.Histories.{Came}
use Rattle.manager_moves.specs.declared.moves.Move.{Move}
use Rattle.manager_moves.specs.declared.moves.Move.TheVariants as move
use Rattle.manager_moves.specs.Lanes.{jobs_in, out_in}
use Rattle.manager_moves.specs.Moves.{call_of, made, next_move, unfinished_from}
use Rattle.manager_moves.specs.Parts.{lent}
use Rattle.manager_moves.specs.Runs.{Event, Events, Shared, Made, Sent, Back, Called, Lined, Stopped}
use Rattle.manager_moves.specs.Runs.{journal_of, lined_count, made_count, share}

-- it comes back to its task as it was given
abbrev pub IsOfTask : Shared → Events → Option ℕ → SeenCarried → Type 0
IsOfTask s events None carried = ⊥
IsOfTask s events (Some n) carried =
    (w : Work) × (slice_get s.works n ≡ Some w) × MayHappen w (share w n events) (Came carried)

-- how many jobs that take a part are out in a lane, and in the first so many lanes
abbrev pub part_jobs_in : ℕ → Events → ℕ
part_jobs_in lane events = length (filter (λ (job : JobId). holds_buffer job.op) (jobs_in lane events))

abbrev pub part_jobs_before : ℕ → Events → ℕ
part_jobs_before zero events = 0
part_jobs_before (suc lane) events = part_jobs_before lane events + part_jobs_in lane events

-- A move is made where the rule names it; what is out comes back at any time, in the order of its lane.
abbrev pub MayFollow : Shared → Events → Event → Type 0
MayFollow s events (Made fits) = next_move s events ≡ move.Make (made_count events)
MayFollow s events (Sent task of_op number lane) = next_move s events ≡ move.Give task of_op number lane
MayFollow s events (Back lane carried) =
    (slice_get (jobs_in lane events) 0 ≡ Some carried.job.id) × IsOfTask s events carried.job.id.task carried
    × (is_some carried.job.part ≡ holds_buffer carried.job.id.op)
MayFollow s events (Called task called result) =
    (call_of s events task called ≡ Some (next_move s events)) × MayCome called result
MayFollow s events Lined = next_move s events ≡ move.Line (lined_count events)
MayFollow s events (Stopped reason) = reason ≢ reason_of.TaskFailed

abbrev pub IsRun : Shared → Events → Type 0
IsRun s [] = Unit {0}
IsRun s (event ∷ before) = MayFollow s before event × IsRun s before

-- no lane has fewer jobs out, and each lower one has more
pub record IsFreest (s : Shared) (events : Events) (lane : ℕ) : Type 0 where
  pub within : 1 ≤ s.lanes → lane < s.lanes
  pub least : (other : ℕ) → other < s.lanes → out_in lane events ≤ out_in other events
  pub first : (other : ℕ) → other < lane → out_in lane events < out_in other events

-- a job goes to the freest lane, which has room
abbrev pub GoesToTheFreest : Shared → Events → Move → Type 0
GoesToTheFreest s events (move.Give task of_op number lane) =
    (out_in lane events < s.depth) × IsFreest s events lane
GoesToTheFreest s events moved = Unit {0}

abbrev pub JobsGoToTheFreest : Type 0
JobsGoToTheFreest = (s : Shared) (events : Events) → GoesToTheFreest s events (next_move s events)

-- No lane has more jobs out than it takes.
abbrev pub LanesKeepTheirDepth : Type 0
LanesKeepTheirDepth = (s : Shared) (events : Events) (lane : ℕ) → IsRun s events → out_in lane events ≤ s.depth

-- All tasks together hold at most as many parts as there are.
abbrev pub PartsAreEnough : Type 0
PartsAreEnough = (s : Shared) (events : Events) → IsRun s events → lent s.works events ≤ s.buffers

-- At most so many jobs that take a part are out in all lanes as there are parts.
abbrev pub BuffersAreKept : Type 0
BuffersAreKept = (s : Shared) (events : Events) → IsRun s events → part_jobs_before s.lanes events ≤ s.buffers

-- So the journal of a run with a lane keeps to the buffers, as the promise says it.
abbrev pub JournalsKeepBuffers : Type 0
JournalsKeepBuffers = (s : Shared) (events : Events) → 1 ≤ s.lanes → IsRun s events → KeepsBuffers s.buffers (journal_of events)

-- At most so many tasks are made and unfinished as the queue holds.
abbrev pub QueueIsKept : Type 0
QueueIsKept = (s : Shared) (events : Events) → IsRun s events
    → unfinished_from s events 0 (made s events) ≤ s.queue

-- What a run gives a task is a history that can come about.
abbrev pub SharesAreHistories : Type 0
SharesAreHistories = (s : Shared) (events : Events) (n : ℕ) (w : Work) → slice_get s.works n ≡ Some w → IsRun s events
    → IsHistory w (share w n events)
