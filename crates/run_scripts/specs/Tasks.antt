-- The tasks of a row.
use Rattle.std.specs.Prelude.{◌≡◌, ◌++◌, ◌≤◌, ℕ, Bool, true, false, List, Option, Some, None, codes, slice_get}
use Rattle.std.specs.Fmt.{decimal}
use Rattle.s3_model.specs.declared.places.Place.{Place}
use Rattle.s3_model.specs.declared.places.Place.TheVariants as place
use Rattle.s3_model.specs.declared.tasks.Kind.{Kind}
use Rattle.s3_model.specs.declared.tasks.Kind.TheVariants as kind
use Rattle.s3_model.specs.declared.tasks.Task.{Task}

abbrev pub from_name : ℕ → List ℕ
from_name n = codes "from" ++ decimal n

abbrev pub to_name : ℕ → List ℕ
to_name n = codes "to" ++ decimal n

abbrev pub IsFile : (name : List ℕ) → Place → Type 0
IsFile name (place.File path) = path ≡ name
IsFile name (place.Object bucket key) = ⊥

abbrev pub IsObject : (name : List ℕ) → Place → Type 0
IsObject name (place.Object bucket key) = key ≡ name
IsObject name (place.File path) = ⊥

-- where the task of that number goes from, and where to, by its kind
abbrev pub GoesFrom : (n : ℕ) → Kind → Option Place → Type 0
GoesFrom n kind.Upload (Some at) = IsFile (from_name n) at
GoesFrom n kind.Download (Some at) = IsObject (from_name n) at
GoesFrom n kind.Copy (Some at) = IsObject (from_name n) at
GoesFrom n kind.RemoveObject None = Unit {0}
GoesFrom n kind.RemoveFile None = Unit {0}
GoesFrom n of_kind from = ⊥

abbrev pub GoesTo : (n : ℕ) → Kind → Place → Type 0
GoesTo n kind.Download at = IsFile (to_name n) at
GoesTo n kind.RemoveFile at = IsFile (to_name n) at
GoesTo n of_kind at = IsObject (to_name n) at

-- a kind whose source may go
abbrev pub can_move : Kind → Bool
can_move kind.RemoveObject = false
can_move kind.RemoveFile = false
can_move of_kind = true

pub record IsTaskOf (most n : ℕ) (task : Task) : Type 0 where
  pub from : GoesFrom n task.kind task.source
  pub to : GoesTo n task.kind task.dest
  pub stays : can_move task.kind ≡ false → task.moves ≡ false
  pub few : task.size ≤ most
  pub replaces : task.fresh ≡ false

-- each is the task of its place
pub record AreTasks (most : ℕ) (tasks : List Task) : Type 0 where
  pub each : (n : ℕ) (task : Task) → slice_get tasks n ≡ Some task → IsTaskOf most n task

-- each may replace its destination
abbrev pub EachReplaces : List Task → Type 0
EachReplaces tasks = (n : ℕ) (task : Task) → slice_get tasks n ≡ Some task → task.fresh ≡ false
