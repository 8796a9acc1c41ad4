-- What a run keeps is what its events say.
use Rattle.std.specs.Option.{option_or}
use Rattle.std.specs.Prelude.{◌≡◌, ◌≤◌, [], ◌∷◌, ℕ, true, false, Option, Some, None, IfSome, IsSome, get_or, is_some}
use Rattle.std.specs.Prelude.{length}
use Rattle.std.specs.Prelude.{slice_get}
use Rattle.jobs.specs.Jobs.{SeenJob}
use Rattle.kept_jobs.specs.Slots.{job_at}
use Rattle.manager_moves.specs.Moves.{made, unfinished_from}
use Rattle.manager_moves.specs.Runs.{Events, Shared, Stopped, lacks_memory, lined_count, made_count, outcome_in, share}
use Rattle.part_tables.specs.Tables.{IsTableOf}
use Rattle.queue_laws.specs.Holding.{HoldLanes}
use Rattle.queue_laws.specs.ReadyActs.{HoldActs}
use Rattle.job_terms.specs.Buffers.{holds_buffer}
use Rattle.s3_model.specs.declared.outcomes.Outcome.{Outcome}
use Rattle.s3_model.specs.declared.outcomes.Reason.{Reason}
use Rattle.s3_model.specs.declared.requests.Op.{Op}
use Rattle.task_acts.specs.Ends.{outcome_of}
use Rattle.task_acts.specs.Histories.{History}
use Rattle.task_acts.specs.Rule.{first_ready_in}
use Rattle.task_acts.specs.declared.work.Work.{Work}
use Rattle.task_core.specs.Machine.{SeenTask, Stands}
use Rattle.alike_histories.specs.Alike.{AreAlike}
use Rattle.move_laws.specs.Kept.{SeenMoves}

-- the first cancel of a run
abbrev pub cancel_of : Events → Option Reason
cancel_of [] = None
cancel_of (Stopped reason ∷ before) = option_or (cancel_of before) (Some reason)
cancel_of (event ∷ before) = cancel_of before

-- a job that is kept holds a part, with that room, where its op takes one
abbrev pub HasItsPart : (room : ℕ) → Op → Option SeenJob → Type 0
HasItsPart room of_op None = Unit {0}
HasItsPart room of_op (Some job) =
    (is_some job.part ≡ holds_buffer of_op) × IfSome job.part (λ part. room ≤ part.bytes.room)

-- It is the task of that work in that history, but for jobs that may have been taken from it once it had stopped, and
-- for cancels behind the first.
pub record IsTaskIn (room : ℕ) (w : Work) (h : History) (t : SeenTask) : Type 0 where
  pub heard : History
  pub stands : Stands w heard t
  pub alike : AreAlike w heard h
  pub parts : (of_op : Op) (number : ℕ) → HasItsPart room of_op (job_at t.kept of_op number)

-- A task whose state is not there has ended, and is ready for nothing.
pub record HasEnded (w : Work) (h : History) : Type 0 where
  pub ended : IsSome (outcome_of w h)
  pub waits : first_ready_in w h ≡ None

-- the state of a task is kept until the task has ended
abbrev pub HoldsTask : (room : ℕ) → Work → History → Option SeenTask → Type 0
HoldsTask room w h None = HasEnded w h
HoldsTask room w h (Some t) = IsTaskIn room w h t × (t.outcome ≡ None)

abbrev pub outcome_at : ℕ → Option Work → Events → Option Outcome
outcome_at n None events = None
outcome_at n (Some w) events = outcome_in w n events

pub record Follows (s : Shared) (events : Events) (m : SeenMoves) : Type 0 where
  pub count : length m.slots ≡ length s.works
  pub queue : m.queue ≡ s.queue
  pub buffers : m.parts.pool.count ≡ s.buffers
  pub some_lane : 1 ≤ s.lanes
  pub lanes : HoldLanes s events m.lanes
  pub acts : HoldActs s events m.acts
  pub parts : IsTableOf s.works events m.parts.slots
  pub made_is : m.made ≡ made_count events
  pub lined : m.lined ≡ lined_count events
  pub unfinished : m.unfinished ≡ unfinished_from s events 0 (made s events)
  pub reason : m.reason ≡ cancel_of events
  pub outcomes : (n : ℕ) → get_or m.outcomes n None ≡ outcome_at n (slice_get s.works n) events
  -- the state of each task that is made, if memory was found for it
  pub tasks : (n : ℕ) (w : Work) → slice_get (made s events) n ≡ Some w → lacks_memory n events ≡ false
      → HoldsTask m.parts.pool.room w (share w n events) (get_or m.slots n None)
  pub lost : (n : ℕ) → lacks_memory n events ≡ true → get_or m.slots n None ≡ None
