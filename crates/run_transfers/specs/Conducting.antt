-- A run over the lanes of a desk: what was done in it, and what is kept beside.
use Rattle.std.specs.Prelude.{◌≡◌, ◌≤◌, ◌++◌, [], ◌∷◌, ℕ, List, Some, drop, get_or, length, map, slice_get}
use Rattle.bounded_executor.specs.Desk.{DeskState, all_out}
use Rattle.bounded_executor.specs.Exchange.{Exchange, unused}
use Rattle.jobs.specs.Endings.{SeenCarried}
use Rattle.jobs.specs.Jobs.{SeenJob}
use Rattle.lane_givings.specs.Givings.{HoldJobs}
use Rattle.manager_core.specs.Due.{call_due}
use Rattle.manager_core.specs.Kept.{SeenManager}
use Rattle.task_acts.specs.declared.acts.Act.{Act}
use Rattle.task_acts.specs.Kept.{MayCome}
use Rattle.task_acts.specs.declared.acts.FileCame.{FileCame}
use Rattle.manager_core.specs.Running.{IsRunning, Start}
use Rattle.manager_core.specs.declared.due.Due.TheVariants as due
use Rattle.manager_moves.specs.Moves.{next_move}
use Rattle.manager_moves.specs.Runs.{Events, Shared}
use Rattle.manager_moves.specs.declared.moves.Move.{Move}
use Rattle.manager_moves.specs.declared.moves.Move.TheVariants as move
use Rattle.pending_jobs.specs.Pending.{IsBack, SeenPendingJobs, pending_of}
use Rattle.run_needs.specs.Needs.{most_bytes}
use Rattle.run_traces.specs.Exchanges.{AreExchangesOf, HasStranger}
use Rattle.s3_model.specs.declared.outcomes.Event.{Event as Entry}
use Rattle.run_transfers.specs.declared.stop.Stop.{Stop}
use Rattle.run_transfers.specs.declared.stop.Stop.TheVariants as stop
use Rattle.run_traces.specs.Traces.{IsRunTrace, RunStep, RunTrace, Took, events_of, journal_of, pending_in}

-- a run of tasks, and which of their jobs are pending
pub record SeenConductor : Type 0 where
  pub manager : SeenManager
  pub pending : SeenPendingJobs

abbrev pub conductor : SeenManager → SeenPendingJobs → SeenConductor
conductor manager pending = record { manager = manager; pending = pending }

-- what a run was given at its start, what its tasks share, and what was done in it and in its planning
pub record Conducted : Type 0 where
  pub start : Start
  pub shared : Shared
  pub trace : RunTrace

abbrev pub further : (since : RunTrace) → Conducted → Conducted
further since run = record run { trace = since ++ run.trace }

-- ---- lanes

-- the jobs of a lane that are pending, the oldest first
abbrev pub pending_of_lane : Exchange SeenJob SeenCarried → List SeenJob
pending_of_lane exchange = drop (length exchange.taken) exchange.given

abbrev pub IsTakenBehind : Exchange SeenJob SeenCarried → Type 0
IsTakenBehind exchange = length exchange.taken ≤ length exchange.given

-- The lanes of the desk are those of the run. Each has the jobs pending that the run has out in it, as they were given,
-- and these are known.
pub record HasLanes {W : Type 0} (s : Shared) (events : Events) (pending : SeenPendingJobs)
    (desk : DeskState W SeenJob SeenCarried) : Type 0 where
  pub lanes : length desk.lanes ≡ s.lanes
  pub depth : desk.depth ≡ s.depth
  pub behind : (lane : ℕ) → IsTakenBehind (get_or desk.lanes lane unused)
  pub jobs : HoldJobs (most_bytes s.works) s events (map pending_of_lane desk.lanes)
  pub known : pending ≡ record {
    depth = s.depth;
    lanes = map (λ (jobs : List SeenJob). map pending_of jobs) (map pending_of_lane desk.lanes);
  }

-- ---- the run

-- That was done: these events have happened, the journal has its entries, and the desk its exchanges.
pub record IsConducting {W : Type 0} (run : Conducted) (c : SeenConductor) (desk : DeskState W SeenJob SeenCarried)
    : Type 0 where
  pub running : IsRunning run.start run.shared (events_of run.trace) c.manager
  pub journal : c.manager.journal.items ≡ journal_of run.trace
  pub exchanged : AreExchangesOf run.trace desk.lanes
  pub lanes : HasLanes run.shared (events_of run.trace) c.pending desk

-- nothing is to be answered
pub record IsFree {W : Type 0} (c : SeenConductor) (desk : DeskState W SeenJob SeenCarried) : Type 0 where
  pub run : Conducted
  pub kept : IsConducting run c desk
  pub free : c.manager.due ≡ due.Free

-- that move is to be answered
pub record IsAt {W : Type 0} (moved : Move) (c : SeenConductor) (desk : DeskState W SeenJob SeenCarried) : Type 0 where
  pub run : Conducted
  pub kept : IsConducting run c desk
  pub is : c.manager.due ≡ due.Next moved

-- a call on files is to be answered, and can come back so
pub record IsCallAt {W : Type 0} (came : FileCame) (c : SeenConductor) (desk : DeskState W SeenJob SeenCarried)
    : Type 0 where
  pub run : Conducted
  pub kept : IsConducting run c desk
  pub task : ℕ
  pub of_act : Act
  pub is : call_due c.manager.due ≡ Some (record { task = task; act = of_act })
  pub may : MayCome of_act came

-- ---- steps

-- an outcome passed the tests against the oldest pending job of its lane
pub record IsOfOldest (lane : ℕ) (carried : SeenCarried) (before : RunTrace) : Type 0 where
  pub job : SeenJob
  pub oldest : slice_get (pending_in lane before) 0 ≡ Some job
  pub back : IsBack (pending_of job) carried.job
  pub few : length carried.tries ≤ 10

-- Outcomes are taken only where the rule waits, and each is of the oldest pending job of its lane.
abbrev pub IsRightStep : Shared → RunStep → (before : RunTrace) → Type 0
IsRightStep s (Took lane carried) before =
    IsOfOldest lane carried before × (next_move s (events_of before) ≡ move.Wait)
IsRightStep s step before = Unit {0}

-- so was each step since then
abbrev pub AreRightSteps : Shared → (since before : RunTrace) → Type 0
AreRightSteps s [] before = Unit {0}
AreRightSteps s (step ∷ since) before = IsRightStep s step (since ++ before) × AreRightSteps s since before

-- whatever was done in the run, it goes on from there by right steps
pub record GoesOn {W : Type 0} (run : Conducted) (new : SeenConductor) (desk : DeskState W SeenJob SeenCarried)
    : Type 0 where
  pub since : RunTrace
  pub kept : IsConducting (further since run) new desk
  pub right : AreRightSteps run.shared since run.trace

abbrev pub Conducts : {W : Type 0} → SeenConductor → DeskState W SeenJob SeenCarried → SeenConductor
    → DeskState W SeenJob SeenCarried → Type 0
Conducts old desk new desk_new = (run : Conducted) → IsConducting run old desk → GoesOn run new desk_new

-- the same was done
abbrev pub StaysConducted : {W : Type 0} → (old new : SeenConductor) → DeskState W SeenJob SeenCarried → Type 0
StaysConducted old new desk = (run : Conducted) → IsConducting run old desk → IsConducting run new desk

-- ---- a stranger

-- a lane brought what is none of its oldest pending job; what was exchanged at the desk is known
pub record MeetsStranger {W : Type 0} (run : Conducted) (desk : DeskState W SeenJob SeenCarried) : Type 0 where
  pub since : RunTrace
  pub exchanged : AreExchangesOf (since ++ run.trace) desk.lanes
  pub stranger : HasStranger (since ++ run.trace)

abbrev pub EndsStrangely : {W : Type 0} → SeenConductor → DeskState W SeenJob SeenCarried
    → DeskState W SeenJob SeenCarried → Type 0
EndsStrangely old desk desk_new = (run : Conducted) → IsConducting run old desk → MeetsStranger run desk_new

-- ---- where a run stops

-- The run came to its end, and no job is out; or a lane brought a stranger; or that call on files is to be made.
abbrev pub Stops : {W : Type 0} → Stop → SeenConductor → DeskState W SeenJob SeenCarried → SeenConductor
    → DeskState W SeenJob SeenCarried → Type 0
Stops stop.End old desk new desk_new =
    IsAt move.End new desk_new × (all_out desk_new ≡ 0) × Conducts old desk new desk_new
Stops stop.Stranger old desk new desk_new = EndsStrangely old desk desk_new
Stops (stop.Call moved) old desk new desk_new = IsAt moved new desk_new × Conducts old desk new desk_new

-- a run whose planning is over, with nothing done for its tasks
pub record IsPlanned (planning : List Entry) (trace : RunTrace) : Type 0 where
  pub run : IsRunTrace trace
  pub silent : events_of trace ≡ []
  pub journal : planning ≡ journal_of trace

-- behind every planning that came to this journal and these exchanges, the run is conducted with nothing done for tasks
abbrev pub BeginsConducting : {W : Type 0} → Start → (shared : Shared) → SeenConductor
    → DeskState W SeenJob SeenCarried → Type 0
BeginsConducting start shared c desk = (trace : RunTrace) → IsPlanned start.planning trace
    → AreExchangesOf trace desk.lanes → IsConducting (record { start = start; shared = shared; trace = trace }) c desk
