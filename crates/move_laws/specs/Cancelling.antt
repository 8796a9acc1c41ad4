-- A run of which the tasks hear of a cancel, one after the other.
use Rattle.std.specs.Prelude.{◌≡◌, ◌≤◌, ◌<◌, ◌+◌, ◌&&◌, [], ◌∷◌, ℕ, Bool, true, false, List, Option, Some, None}
use Rattle.std.specs.Prelude.{get_or, is_some, length, nat_lt, not, slice_get, if◌then◌else◌}
use Rattle.held_parts.specs.Held.{held_at}
use Rattle.manager_moves.specs.Moves.{made}
use Rattle.manager_moves.specs.Runs.{Events, Shared, Stopped, lacks_memory, lined_count, made_count, share}
use Rattle.manager_parts.specs.Counts.{holds}
use Rattle.part_tables.specs.Tables.{IsTableBut, is_cancelled}
use Rattle.queue_laws.specs.Holding.{HoldLanes}
use Rattle.queue_laws.specs.ReadyActs.{sort_at}
use Rattle.s3_model.specs.declared.outcomes.Outcome.{Outcome}
use Rattle.s3_model.specs.declared.outcomes.Reason.{Reason}
use Rattle.task_acts.specs.declared.work.Work.{Work}
use Rattle.move_laws.specs.Admits.{IsRunOf}
use Rattle.move_laws.specs.Follows.{HoldsTask, cancel_of, outcome_at}
use Rattle.move_laws.specs.Kept.{SeenMoves}

-- what is kept of that task is what these events say
pub record IsKept (s : Shared) (events : Events) (m : SeenMoves) (n : ℕ) : Type 0 where
  pub act : get_or m.acts n None ≡ sort_at s events n (slice_get (made s events) n)
  pub outcome : get_or m.outcomes n None ≡ outcome_at n (slice_get s.works n) events
  pub lost : lacks_memory n events ≡ true → get_or m.slots n None ≡ None
  pub state : (w : Work) → slice_get (made s events) n ≡ Some w → lacks_memory n events ≡ false
      → HoldsTask m.parts.pool.room w (share w n events) (get_or m.slots n None)

-- how many tasks of a list have no outcome, the first of them with that number
abbrev pub open_from : List (Option Outcome) → (n : ℕ) → List Work → ℕ
open_from outcomes n [] = 0
open_from outcomes n (w ∷ works) =
    (if is_some (get_or outcomes n None) then 0 else 1) + open_from outcomes (n + 1) works

-- the cancel is still to stop that task: the tasks below a number have heard of it
abbrev pub is_to_hear : List Work → Events → (below task : ℕ) → Bool
is_to_hear works events below task = not (nat_lt task below) && is_cancelled works events task

-- The run is cancelled for the first time. The tasks below that number have heard of it, the others not yet.
pub record HaveHeard (s : Shared) (events : Events) (reason : Reason) (below : ℕ) (m : SeenMoves) : Type 0 where
  pub count : length m.slots ≡ length s.works
  pub queue : m.queue ≡ s.queue
  pub buffers : m.parts.pool.count ≡ s.buffers
  pub some_lane : 1 ≤ s.lanes
  pub lanes : HoldLanes s events m.lanes
  pub made_is : m.made ≡ made_count events
  pub lined : m.lined ≡ lined_count events
  pub unfinished : m.unfinished ≡ open_from m.outcomes 0 (made s events)
  pub reason_is : m.reason ≡ Some reason
  pub first : cancel_of events ≡ None
  pub parts : IsTableBut (is_to_hear s.works events below) s.works (Stopped reason ∷ events) m.parts.slots
  pub held : (n number : ℕ) → below ≤ n → is_some (held_at m.parts.slots n number) ≡ holds s.works events n number
  pub told : (n : ℕ) → n < below → IsKept s (Stopped reason ∷ events) m n
  pub untold : (n : ℕ) → below ≤ n → IsKept s events m n

-- it is so of some run
pub record AreTold (reason : Reason) (below : ℕ) (m : SeenMoves) : Type 0 where
  pub s : Shared
  pub events : Events
  pub run : IsRunOf s (Stopped reason ∷ events)
  pub heard : HaveHeard s events reason below m

-- whatever run it is of, one task more has heard
abbrev pub TellsNext : Reason → (task : ℕ) → (m new : SeenMoves) → Type 0
TellsNext reason task m new = (s : Shared) (events : Events) → IsRunOf s (Stopped reason ∷ events)
    → HaveHeard s events reason task m → HaveHeard s events reason (task + 1) new
