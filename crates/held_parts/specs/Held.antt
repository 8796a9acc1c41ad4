-- Which pieces hold the parts that are lent.
use Rattle.std.specs.Prelude.{◌≡◌, ◌≤◌, ◌<◌, ◌+◌, ◌++◌, ◌^◌, ◌==◌, ◌&&◌, [], ◌∷◌, ℕ, Bool, false, List, Option, Some, None, is_some, length, not, if◌then◌else◌}
use Rattle.std.specs.List.{count_by}
use Rattle.s3_model.specs.declared.bytes.Part.{Part}
use Rattle.chunk_plan.specs.Pool.{Pool}
use Rattle.held_parts.specs.declared.held.Held.{Held}

-- what contracts see: the pool, and the places for the parts that are lent
pub record SeenParts : Type 0 where
  pub pool : Pool
  pub slots : List (Option Held)

abbrev pub is_of : (task number : ℕ) → Option Held → Bool
is_of task number None = false
is_of task number (Some held) = (held.task == task) && (held.number == number)

abbrev pub is_vacant : Option Held → Bool
is_vacant slot = not (is_some slot)

abbrev pub part_of : Option Held → Option (Option Part)
part_of None = None
part_of (Some held) = Some held.part

-- what a piece holds: nothing, a part that is away with its job, or one that is here
abbrev pub held_at : List (Option Held) → (task number : ℕ) → Option (Option Part)
held_at [] task number = None
held_at (slot ∷ slots) task number = if is_of task number slot then part_of slot else held_at slots task number

abbrev pub IsHere : Option (Option Part) → Type 0
IsHere None = ⊥
IsHere (Some None) = ⊥
IsHere (Some (Some part)) = Unit {0}

-- how many parts are lent
abbrev pub lent_in : List (Option Held) → ℕ
lent_in slots = count_by is_some slots

abbrev pub HoldsNone : List (Option Held) → Option Held → Type 0
HoldsNone slots None = Unit {0}
HoldsNone slots (Some held) = held_at slots held.task held.number ≡ None

-- no piece holds two
abbrev pub AreSingle : List (Option Held) → Type 0
AreSingle [] = Unit {0}
AreSingle (slot ∷ slots) = HoldsNone slots slot × AreSingle slots

-- a part that is here has the room of the pool
abbrev pub HasRoomIn : ℕ → Option Part → Type 0
HasRoomIn room None = Unit {0}
HasRoomIn room (Some part) = room ≤ part.bytes.room

abbrev pub HasRoom : ℕ → Option Held → Type 0
HasRoom room None = Unit {0}
HasRoom room (Some held) = HasRoomIn room held.part

abbrev pub HaveRoom : ℕ → List (Option Held) → Type 0
HaveRoom room [] = Unit {0}
HaveRoom room (slot ∷ slots) = HasRoom room slot × HaveRoom room slots

pub record IsTable (pool : Pool) (slots : List (Option Held)) : Type 0 where
  pub many : length slots ≡ pool.count
  pub lent_are : pool.lent ≡ lent_in slots
  pub whole : pool.free + pool.lent ≡ pool.count
  pub few : pool.count < 2 ^ 32
  pub single : AreSingle slots
  pub room : HaveRoom pool.room slots

-- as many parts, with as much room
pub record IsSamePool (pool new : Pool) : Type 0 where
  pub count : new.count ≡ pool.count
  pub room : new.room ≡ pool.room

-- ---- parts that are here

abbrev pub inner : Option (Option Part) → Option Part
inner None = None
inner (Some part) = part

-- the part of a piece, where it is here
abbrev pub here_at : List (Option Held) → (task number : ℕ) → Option Part
here_at slots task number = inner (held_at slots task number)

abbrev pub here : Option Held → Option Part
here slot = inner (part_of slot)

abbrev pub with_more : List ℕ → Part → Part
with_more bytes part = record { bytes = record { bytes = part.bytes.bytes ++ bytes; room = part.bytes.room } }

abbrev pub grown : List ℕ → Option (Option Part) → Option (Option Part)
grown bytes None = None
grown bytes (Some None) = Some None
grown bytes (Some (Some part)) = Some (Some (with_more bytes part))

-- ---- a task that is stopped

abbrev pub is_here_of : (task : ℕ) → Option Held → Bool
is_here_of task None = false
is_here_of task (Some held) = (held.task == task) && is_some held.part

-- its parts that are here go back
abbrev pub stopped : (task : ℕ) → Option Held → Option Held
stopped task slot = if is_here_of task slot then None else slot

-- what a piece of the task numbered x holds then
abbrev pub stopped_at : (task x : ℕ) → Option (Option Part) → Option (Option Part)
stopped_at task x before = if (task == x) && is_some (inner before) then None else before
