-- The names of jobs, and where the requests of a task go.
use Rattle.std.specs.Prelude.{◌≡◌, ◌==◌, ◌&&◌, ℕ, Bool, true, false, List, Option, Some, None}
use Rattle.s3_model.specs.declared.outcomes.JobId.{JobId}
use Rattle.s3_model.specs.declared.places.Place.{Place}
use Rattle.s3_model.specs.declared.places.Place.TheVariants as place
use Rattle.s3_model.specs.declared.requests.Ask.{Ask}
use Rattle.s3_model.specs.declared.requests.Ask.TheVariants as ask
use Rattle.s3_model.specs.declared.requests.Op.{Op}
use Rattle.s3_model.specs.declared.tasks.Task.{Task}
use Rattle.job_terms.specs.Ops.{is_op}

-- ---- names

abbrev pub job_of : ℕ → Op → ℕ → JobId
job_of task op number = record { task = Some task; op = op; number = number }

abbrev pub is_task : Option ℕ → Option ℕ → Bool
is_task None None = true
is_task (Some a) (Some b) = a == b
is_task None (Some b) = false
is_task (Some a) None = false

abbrev pub is_job : JobId → JobId → Bool
is_job a b = is_task a.task b.task && is_op a.op b.op && (a.number == b.number)

-- ---- places

abbrev pub IsObject : Place → List ℕ → List ℕ → Type 0
IsObject (place.Object b k) bucket key = (b ≡ bucket) × (k ≡ key)
IsObject (place.File path) bucket key = ⊥

abbrev pub IsSource : Option Place → List ℕ → List ℕ → Type 0
IsSource None bucket key = ⊥
IsSource (Some of_place) bucket key = IsObject of_place bucket key

-- where a request of a task goes to, and for a copy where it takes from
pub record Target (task : Task) : Type 0 where
  pub bucket : List ℕ
  pub key : List ℕ
  pub is_dest : IsObject task.dest bucket key

pub record Origin (task : Task) : Type 0 where
  pub bucket : List ℕ
  pub key : List ℕ
  pub is_source : IsSource task.source bucket key

abbrev pub IsSourceDelete : Task → Ask → Type 0
IsSourceDelete task asked = (from : Origin task) × (task.moves ≡ true) × (asked ≡ ask.Delete from.bucket from.key)
