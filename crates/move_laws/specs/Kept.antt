-- What a run keeps, and the next move by it.
use Rattle.std.specs.Prelude.{◌≡◌, ◌≤◌, ◌<◌, ◌^◌, ◌-◌, ◌==◌, ◌&&◌, ℕ, Bool, List, Option, Some, None, get_or, is_some}
use Rattle.std.specs.Prelude.{length, set}
use Rattle.std.specs.Prelude.{nat_lt, not}
use Rattle.std.specs.Prelude.{if◌then◌else◌}
use Rattle.std.specs.List.{position}
use Rattle.act_queues.specs.Sorts.{may_call, may_give}
use Rattle.act_queues.specs.declared.act_queues.ActSort.{ActSort}
use Rattle.act_queues.specs.declared.act_queues.ActSort.TheVariants as sort
use Rattle.held_parts.specs.Held.{SeenParts, lent_in}
use Rattle.jobs.specs.Jobs.{SeenJob}
use Rattle.kept_jobs.specs.Slots.{job_at}
use Rattle.lane_queues.specs.Lanes.{SeenLanes, out_in, out_of}
use Rattle.manager_moves.specs.Parts.{is_kept}
use Rattle.manager_moves.specs.declared.moves.Move.{Move}
use Rattle.manager_moves.specs.declared.moves.Move.TheVariants as move
use Rattle.part_changes.specs.Changes.{comes_down}
use Rattle.s3_model.specs.declared.outcomes.Outcome.{Outcome}
use Rattle.s3_model.specs.declared.outcomes.Reason.{Reason}
use Rattle.s3_model.specs.declared.requests.Op.{Op}
use Rattle.task_acts.specs.declared.acts.Act.{Act}
use Rattle.task_acts.specs.declared.acts.Act.TheVariants as act
use Rattle.task_core.specs.Machine.{SeenTask, ready_by}
use Rattle.task_stages.specs.Stages.{stage_by}

-- what contracts see: how many tasks may be made and unfinished, the lanes, for each task the sort of the act that it
-- is ready for, its state and its outcome, the parts, how many tasks are made, have their line, and are unfinished, and
-- the first cancel
pub record SeenMoves : Type 0 where
  pub queue : ℕ
  pub lanes : SeenLanes
  pub acts : List (Option ActSort)
  pub slots : List (Option SeenTask)
  pub outcomes : List (Option Outcome)
  pub parts : SeenParts
  pub made : ℕ
  pub lined : ℕ
  pub unfinished : ℕ
  pub reason : Option Reason

-- there is a place for each task
pub record IsSound (acts : List (Option ActSort)) (slots : List (Option SeenTask)) (outcomes : List (Option Outcome))
    (made : ℕ) : Type 0 where
  pub acts_are : length acts ≡ length slots
  pub outcomes_are : length outcomes ≡ length slots
  pub made_few : made ≤ length slots
  pub few : length slots < 2 ^ 32

-- ---- one task

-- this at that task, and at each other as it was
abbrev pub at_task : {X : Type 0} → (task n : ℕ) → (now before : X) → X
at_task task n now before = if task == n then now else before

-- the state of a task, where it is made and has not ended
abbrev pub state_at : SeenMoves → (task : ℕ) → Option SeenTask
state_at m task = get_or m.slots task None

-- the job that is kept of that task under that op and number
abbrev pub kept_in : Option SeenTask → Op → (number : ℕ) → Option SeenJob
kept_in None of_op number = None
kept_in (Some t) of_op number = job_at t.kept of_op number

abbrev pub kept_at : SeenMoves → (task : ℕ) → Op → (number : ℕ) → Option SeenJob
kept_at m task of_op number = kept_in (state_at m task) of_op number

-- what an act needs; the part of a Get that is given again is with its job
abbrev pub sort_in : SeenTask → Act → ActSort
sort_in t (act.Send of_op number) =
    if comes_down of_op && not (is_kept (stage_by t.stages (act.Send of_op number))) then sort.Get else sort.Job
sort_in t (act.Read number) = sort.Read
sort_in t of_act = sort.Call

abbrev pub sort_if : SeenTask → Option Act → Option ActSort
sort_if t None = None
sort_if t (Some ready) = Some (sort_in t ready)

abbrev pub sort_by : SeenTask → Option ActSort
sort_by t = sort_if t (ready_by t)

-- a state is kept until the task has ended
abbrev pub slot_for : SeenTask → Option SeenTask
slot_for t = if is_some t.outcome then None else Some t

abbrev pub ended_count : SeenTask → ℕ
ended_count t = if is_some t.outcome then 1 else 0

-- ---- what calls change

abbrev pub with_sort : (task : ℕ) → Option ActSort → SeenMoves → SeenMoves
with_sort task ready m = record m { acts = set m.acts task ready }

abbrev pub with_slot : (task : ℕ) → Option SeenTask → SeenMoves → SeenMoves
with_slot task state m = record m { slots = set m.slots task state }

abbrev pub with_outcome : (task : ℕ) → Option Outcome → SeenMoves → SeenMoves
with_outcome task ended m = record m { outcomes = set m.outcomes task ended }

-- one unfinished task less, if it has ended
abbrev pub with_fewer : (ended : Bool) → SeenMoves → SeenMoves
with_fewer ended m = record m { unfinished = m.unfinished - (if ended then 1 else 0) }

abbrev pub with_parts : SeenParts → SeenMoves → SeenMoves
with_parts parts m = record m { parts = parts }

abbrev pub with_lanes : SeenLanes → SeenMoves → SeenMoves
with_lanes lanes m = record m { lanes = lanes }

-- the state of that task is taken out
abbrev pub without_state : (task : ℕ) → SeenMoves → SeenMoves
without_state task m = with_slot task None m

-- that task is in this state now
abbrev pub with_state : (task : ℕ) → SeenTask → SeenMoves → SeenMoves
with_state task t m = record m {
  acts = set m.acts task (sort_by t);
  slots = set m.slots task (slot_for t);
  outcomes = set m.outcomes task t.outcome;
  unfinished = m.unfinished - ended_count t;
}

-- what is kept of the other tasks stays
pub record IsMoved (task : ℕ) (sort : Option ActSort) (state : Option SeenTask) (ended : Option Outcome)
    (m new : SeenMoves) : Type 0 where
  pub queue : new.queue ≡ m.queue
  pub count : length new.slots ≡ length m.slots
  pub buffers : new.parts.pool.count ≡ m.parts.pool.count
  pub room : new.parts.pool.room ≡ m.parts.pool.room
  pub acts : (n : ℕ) → get_or new.acts n None ≡ at_task task n sort (get_or m.acts n None)
  pub slots : (n : ℕ) → get_or new.slots n None ≡ at_task task n state (get_or m.slots n None)
  pub outcomes : (n : ℕ) → get_or new.outcomes n None ≡ at_task task n ended (get_or m.outcomes n None)
  pub lined : new.lined ≡ m.lined
  pub reason : new.reason ≡ m.reason

-- ---- the moves that acts are

abbrev pub call_move : (task : ℕ) → Act → Option Move
call_move task (act.Send of_op number) = None
call_move task (act.Read number) = Some (move.Read task number)
call_move task act.Assemble = Some (move.Assemble task 0)
call_move task (act.Place number) = Some (move.Place task number)
call_move task act.Rename = Some (move.Rename task 0)
call_move task act.DropTemp = Some (move.DropTemp task 0)
call_move task act.Remove = Some (move.Remove task 0)
call_move task act.Stamp = Some (move.Stamp task 0)

abbrev pub giving_move : (lane task : ℕ) → Act → Option Move
giving_move lane task (act.Send of_op number) = Some (move.Give task of_op number lane)
giving_move lane task of_act = None

-- ---- the act of a task

abbrev pub act_in : Option SeenTask → Option Act
act_in None = None
act_in (Some task) = ready_by task

abbrev pub act_at : SeenMoves → (task : ℕ) → Option Act
act_at m task = act_in (get_or m.slots task None)

abbrev pub move_if : (Act → Option Move) → Option Act → Option Move
move_if of_act None = None
move_if of_act (Some ready) = of_act ready

-- the move of the act of that task
abbrev pub move_at : SeenMoves → (ℕ → Act → Option Move) → Option ℕ → Option Move
move_at m of_act None = None
move_at m of_act (Some task) = move_if (of_act task) (act_at m task)

-- ---- the next move

abbrev pub has_free : SeenMoves → Bool
has_free m = nat_lt (lent_in m.parts.slots) m.parts.pool.count

abbrev pub has_outcome : SeenMoves → (task : ℕ) → Bool
has_outcome m task = is_some (get_or m.outcomes task None)

abbrev pub line_by : SeenMoves → Option Move
line_by m = if has_outcome m m.lined then Some (move.Line m.lined) else None

abbrev pub call_by : SeenMoves → (free : Bool) → Option Move
call_by m free = move_at m call_move (position (may_call free) m.acts)

-- the least task that can give a job to that lane
abbrev pub giver : SeenMoves → (lane : ℕ) → (free : Bool) → Option ℕ
giver m lane free = position (may_give (nat_lt (out_in m.lanes lane) m.lanes.depth) free) m.acts

abbrev pub giving_by : SeenMoves → (lane : ℕ) → (free : Bool) → Option Move
giving_by m lane free = move_at m (giving_move lane) (giver m lane free)

abbrev pub make_by : SeenMoves → Option Move
make_by m =
    if nat_lt m.made (length m.slots) && nat_lt m.unfinished m.queue then Some (move.Make m.made) else None

abbrev pub rest_by : SeenMoves → Move
rest_by m = if nat_lt 0 (out_of m.lanes) then move.Wait else move.End
