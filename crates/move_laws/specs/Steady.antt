-- What stays of parts and of entity tags, whatever a call does.
use Rattle.std.specs.Prelude.{◌≡◌, ◌==◌, ℕ, Bool, true, false, Option, Some, None, is_some}
use Rattle.task_core.specs.Machine.{SeenTask}
use Rattle.move_laws.specs.Kept.{SeenMoves, state_at}

-- the entity tags of its parts are there
abbrev pub has_tags : Option SeenTask → Bool
has_tags None = false
has_tags (Some t) = is_some t.tags

-- parts have the room that they had, and a task that goes on went on, and has its entity tags where it had them
pub record IsSteady (m new : SeenMoves) : Type 0 where
  pub room : new.parts.pool.room ≡ m.parts.pool.room
  pub went_on : (n : ℕ) → is_some (state_at new n) ≡ true → is_some (state_at m n) ≡ true
  pub tags : (n : ℕ) → is_some (state_at new n) ≡ true → has_tags (state_at new n) ≡ has_tags (state_at m n)

-- the next task is made, in that state if it goes on
pub record IsSteadyBut (state : Option SeenTask) (m new : SeenMoves) : Type 0 where
  pub room : new.parts.pool.room ≡ m.parts.pool.room
  pub others : (n : ℕ) → (m.made == n) ≡ false → state_at new n ≡ state_at m n
  pub went_on : is_some (state_at new m.made) ≡ true → is_some state ≡ true
  pub its : is_some (state_at new m.made) ≡ true → has_tags (state_at new m.made) ≡ has_tags state
