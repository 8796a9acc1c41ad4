-- Which plans can be carried out, and why others are refused.
use Rattle.std.specs.Prelude.{◌≡◌, ◌<◌, ◌≤◌, ⊤, ℕ, Bool, false, List, [], ◌∷◌, Option, Some, None, length, filter_map}
use Rattle.std.specs.Prelude.{slice_get, Contains, IsTrue, nat_lt, if◌then◌else◌}
use Rattle.std.specs.Cmp.Lexicographic.{slice_cmp}
use Rattle.std.specs.Option.{option_or}
use Rattle.std.specs.Ordering.{is_le, nat_cmp}
use Rattle.std.specs.declared.cmp.Ordering.{Ordering}
use Rattle.std.specs.declared.cmp.Ordering.TheVariants.{Less, Greater}
use Rattle.s3_model.specs.declared.faults.PlanFault.{PlanFault}
use Rattle.s3_model.specs.declared.faults.PlanFault.TheVariants as fault
use Rattle.s3_model.specs.declared.places.Place.{Place}
use Rattle.s3_model.specs.declared.places.Place.TheVariants as place
use Rattle.s3_model.specs.declared.tasks.Kind.{Kind}
use Rattle.s3_model.specs.declared.tasks.Kind.TheVariants as kind
use Rattle.s3_model.specs.declared.tasks.Task.{Task}
use Rattle.s3_paths.specs.Uris.{uri_text}

-- ---- a task that is too large

abbrev pub place_text : Place → List ℕ
place_text (place.Object bucket key) = uri_text bucket key
place_text (place.File path) = path

-- a transfer of more bytes than an object may have
abbrev pub is_too_large : (most : ℕ) → Task → Option Place → Option PlanFault
is_too_large most task None = None
is_too_large most task (Some source) =
    if nat_lt most task.size then Some (fault.TooLarge (place_text source) task.size) else None

-- the first of these tasks, by its source and its size
abbrev pub size_fault : (most : ℕ) → List Task → Option PlanFault
size_fault most [] = None
size_fault most (task ∷ tasks) = option_or (is_too_large most task task.source) (size_fault most tasks)

-- ---- objects that are read and written

abbrev pub object_key : Option Place → Option (List ℕ)
object_key (Some (place.Object bucket key)) = Some key
object_key at = None

-- the keys of the objects that tasks read, and of those that they write or remove
abbrev pub read_keys : List Task → List (List ℕ)
read_keys tasks = filter_map (λ (task : Task). object_key task.source) tasks

abbrev pub written_keys : List Task → List (List ℕ)
written_keys tasks = filter_map (λ (task : Task). object_key (Some task.dest)) tasks

-- both read and written, whatever the bucket
abbrev pub IsCommon : List Task → (key : List ℕ) → Type 0
IsCommon tasks key = Contains (read_keys tasks) key × Contains (written_keys tasks) key

abbrev pub IsLeastCommon : List Task → (key : List ℕ) → Type 0
IsLeastCommon tasks key =
    IsCommon tasks key × ((other : List ℕ) → IsCommon tasks other → IsTrue (is_le (slice_cmp nat_cmp key other)))

-- the order in which two keys are passed over
abbrev pub key_order : (read written : Option (List ℕ)) → Ordering
key_order None written = Less
key_order (Some read) None = Greater
key_order (Some read) (Some written) = slice_cmp nat_cmp read written

-- an object that one task reads and one writes or removes
pub record Overlaps (tasks : List Task) (key : List ℕ) : Type 0 where
  pub bucket : List ℕ
  pub reads : Task
  pub writes : Task
  pub is_read : Contains tasks reads
  pub is_written : Contains tasks writes
  pub source : reads.source ≡ Some (place.Object bucket key)
  pub dest : writes.dest ≡ place.Object bucket key

-- ---- plans

-- the places that a task of each kind has; a removal reads nothing and moves nothing
abbrev pub IsOfKind : Kind → Option Place → Place → (moves : Bool) → Type 0
IsOfKind kind.Upload (Some (place.File path)) (place.Object bucket key) moves = ⊤
IsOfKind kind.Download (Some (place.Object bucket key)) (place.File path) moves = ⊤
IsOfKind kind.Copy (Some (place.Object b k)) (place.Object bucket key) moves = ⊤
IsOfKind kind.RemoveObject None (place.Object bucket key) false = ⊤
IsOfKind kind.RemoveFile None (place.File path) false = ⊤
IsOfKind of_kind source dest moves = ⊥

-- A plan that can be carried out.
pub record IsFit (most : ℕ) (tasks : List Task) : Type 0 where
  -- no two tasks have one destination, an object or a file
  pub destinations : (m n : ℕ) (a b : Task) → slice_get tasks m ≡ Some a → slice_get tasks n ≡ Some b
      → a.dest ≡ b.dest → m ≡ n
  -- no two tasks have one source
  pub sources : (m n : ℕ) (a b : Task) (source : Place) → slice_get tasks m ≡ Some a → slice_get tasks n ≡ Some b
      → a.source ≡ Some source → b.source ≡ Some source → m ≡ n
  -- no destination is the source of a task
  pub apart : (m n : ℕ) (a b : Task) (source : Place) → slice_get tasks m ≡ Some a → slice_get tasks n ≡ Some b
      → a.source ≡ Some source → b.dest ≡ source → ⊥
  pub kinds : (n : ℕ) (task : Task) → slice_get tasks n ≡ Some task
      → IsOfKind task.kind task.source task.dest task.moves
  pub sizes : size_fault most tasks ≡ None
  pub few : length tasks ≤ 1000000

-- Why a plan is refused: its first task that is too large, else the least key that is read and written, else too many
-- tasks.
abbrev pub IsRefused : (most : ℕ) → List Task → PlanFault → Type 0
IsRefused most tasks (fault.TooLarge path size) = size_fault most tasks ≡ Some (fault.TooLarge path size)
IsRefused most tasks (fault.Overlap key) = (size_fault most tasks ≡ None) × Overlaps tasks key
    × ((other : List ℕ) → Overlaps tasks other → IsTrue (is_le (slice_cmp nat_cmp key other)))
IsRefused most tasks fault.TooMany = (size_fault most tasks ≡ None) × ((key : List ℕ) → ¬ (Overlaps tasks key))
    × (1000000 < length tasks)
IsRefused most tasks why = ⊥

-- the same where the places of the plan are in one bucket, or nothing is read where something is written
abbrev pub IsJudged : (most : ℕ) → (one_bucket : Bool) → List Task → PlanFault → Type 0
IsJudged most one_bucket tasks (fault.TooLarge path size) = size_fault most tasks ≡ Some (fault.TooLarge path size)
IsJudged most one_bucket tasks (fault.Overlap key) =
    (size_fault most tasks ≡ None) × IsTrue one_bucket × IsLeastCommon tasks key
IsJudged most one_bucket tasks fault.TooMany = (size_fault most tasks ≡ None)
    × (IsTrue one_bucket → (key : List ℕ) → ¬ (IsCommon tasks key)) × (1000000 < length tasks)
IsJudged most one_bucket tasks why = ⊥
