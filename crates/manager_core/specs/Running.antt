-- A run as it is kept, beside what happened in it.
use Rattle.std.specs.Prelude.{◌≡◌, ◌≤◌, ◌+◌, ◌++◌, ◌/◌, [], ◌∷◌, ℕ, false, List, length, max, min, slice_get, Some}
use Rattle.held_parts.specs.Held.{IsHere, held_at}
use Rattle.manager_moves.specs.Moves.{next_move}
use Rattle.manager_moves.specs.Runs.{Event, Events, Shared, journal_of}
use Rattle.manager_moves.specs.declared.moves.Move.TheVariants as move
use Rattle.move_laws.specs.Admits.{IsRunOf}
use Rattle.move_laws.specs.Follows.{Follows}
use Rattle.move_laws.specs.Kept.{SeenMoves}
use Rattle.move_laws.specs.Lending.{IsLentIn}
use Rattle.run_needs.specs.Entries.{journal_room}
use Rattle.run_needs.specs.Needs.{AreWorksOf, most_bytes}
use Rattle.run_progress.specs.RunProgress.{HasMeans}
use Rattle.s3_model.specs.Validity.{IsValidConfig, IsValidLimits}
use Rattle.s3_model.specs.declared.outcomes.Event.{Event as Entry}
use Rattle.s3_model.specs.declared.settings.Config.{Config}
use Rattle.s3_model.specs.declared.settings.Limits.{Limits}
use Rattle.s3_model.specs.declared.tasks.Plan.{Plan}
use Rattle.s3_model.specs.declared.tasks.Task.{Task}
use Rattle.sync_plan.specs.Fit.{IsFit}
use Rattle.manager_core.specs.declared.due.Due.{Due}
use Rattle.manager_core.specs.declared.due.Due.TheVariants as due
use Rattle.manager_core.specs.Due.{told}
use Rattle.manager_core.specs.Kept.{SeenManager}
use Rattle.run_steps.specs.Steps.{HoldSteps}
use Rattle.manager_core.specs.Tags.{HoldTags}

-- ---- what a run is given

-- the plan and the journal of the planning, with the settings and limits
pub record Start : Type 0 where
  pub plan : Plan
  pub planning : List Entry
  pub config : Config
  pub limits : Limits

-- a plan that can be carried out; each of its tasks may replace its destination
pub record CanRun (limits : Limits) (tasks : List Task) : Type 0 where
  pub fit : IsFit limits.max_object tasks
  pub replace : (n : ℕ) (task : Task) → slice_get tasks n ≡ Some task → task.fresh ≡ false

-- how many jobs a lane takes: the queue is shared out to the lanes
abbrev pub lane_depth : (queue lanes : ℕ) → ℕ
lane_depth queue lanes = min 64 (max 1 (queue / lanes))

pub record IsSharedOf (config : Config) (limits : Limits) (lanes : ℕ) (tasks : List Task) (s : Shared) : Type 0 where
  pub works : AreWorksOf config limits tasks s.works
  pub lanes_are : s.lanes ≡ lanes
  pub depth_is : s.depth ≡ lane_depth config.queue lanes
  pub queue_is : s.queue ≡ config.queue
  pub buffers_are : s.buffers ≡ config.buffers

-- ---- what is kept

-- what is kept of the moves is what the events say, but for the part that is lent to a piece that is to be read
abbrev pub FollowsBut : Due → Shared → Events → SeenMoves → Type 0
FollowsBut (due.Next (move.Read task number)) s events m = IsLentIn s events task number m
FollowsBut of_due s events m = Follows s events m

-- the piece that is to be read has its part
abbrev pub HasReadPart : Due → SeenMoves → Type 0
HasReadPart (due.Next (move.Read task number)) m = IsHere (held_at m.parts.slots task number)
HasReadPart of_due m = Unit {0}

-- the move that is to be answered is the next one by the rule
abbrev pub IsNamed : Due → Shared → Events → Type 0
IsNamed (due.Next moved) s events = next_move s events ≡ moved
IsNamed of_due s events = Unit {0}

-- these events happened by the rule, and that is to be answered
pub record IsAt (of_due : Due) (s : Shared) (events : Events) (m : SeenManager) : Type 0 where
  pub run : IsRunOf s (told of_due events)
  pub follows : FollowsBut of_due s (told of_due events) m.moves
  pub named : IsNamed of_due s events
  pub steps : HoldSteps s (told of_due events) m.plan.tasks.items m.steps
  pub tags : HoldTags s (told of_due events) m.moves

-- The journal is that of the planning and behind it that of the run, with room for all that may still come.
pub record IsJournal (planning : List Entry) (s : Shared) (events : Events) (m : SeenManager) : Type 0 where
  pub items : m.journal.items ≡ planning ++ journal_of events
  pub room : journal_room s.works ≤ m.journal.spare + length (journal_of events)

-- what was given to the run at its start, which stays
pub record IsGivenTo (start : Start) (s : Shared) (m : SeenManager) : Type 0 where
  pub plan_is : m.plan ≡ start.plan
  pub config_is : m.config ≡ start.config
  pub limits_are : m.limits ≡ start.limits
  pub config : IsValidConfig m.config
  pub limits : IsValidLimits m.limits
  pub plan : CanRun m.limits m.plan.tasks.items
  pub means : HasMeans s
  pub works : AreWorksOf m.config m.limits m.plan.tasks.items s.works
  pub no_outcome : m.outcomes.items ≡ []
  pub outcomes : length m.plan.tasks.items ≤ m.outcomes.spare
  pub bytes : m.moves.parts.pool.room ≡ most_bytes s.works

-- These events have happened, by the rule.
pub record IsRunning (start : Start) (s : Shared) (events : Events) (m : SeenManager) : Type 0 where
  pub given : IsGivenTo start s m
  pub journal : IsJournal start.planning s events m
  pub state : IsAt m.due s events m

-- whatever had happened, nothing else has happened
abbrev pub KeepsRun : (m new : SeenManager) → Type 0
KeepsRun m new = (start : Start) (s : Shared) (events : Events) → IsRunning start s events m
    → IsRunning start s events new

-- whatever had happened, that event has happened too
abbrev pub RunsOn : Event → (m new : SeenManager) → Type 0
RunsOn event m new = (start : Start) (s : Shared) (events : Events) → IsRunning start s events m
    → IsRunning start s (event ∷ events) new
