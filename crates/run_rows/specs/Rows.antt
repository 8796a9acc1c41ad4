-- What the jobs are that come back.
use Rattle.std.specs.Prelude.{◌≡◌, ℕ, Bool, true, false, Option, Some, None}
use Rattle.jobs.specs.declared.ending.Ending.{Ending}
use Rattle.jobs.specs.declared.ending.Ending.TheVariants as ending
use Rattle.s3_model.specs.declared.answers.Reply.TheVariants as reply
use Rattle.s3_model.specs.declared.places.Place.{Place}
use Rattle.s3_model.specs.declared.places.Place.TheVariants as place
use Rattle.s3_model.specs.declared.requests.Op.{Op}
use Rattle.s3_model.specs.declared.requests.Op.TheVariants as op
use Rattle.s3_model.specs.declared.tasks.Kind.{Kind}
use Rattle.s3_model.specs.declared.tasks.Kind.TheVariants as kind
use Rattle.s3_model.specs.declared.tasks.Task.{Task}

abbrev pub is_step : Op → Bool
is_step op.Head = false
is_step op.List = false
is_step op.Buckets = false
is_step of_op = true

-- a kind of task that has jobs of that op
abbrev pub kind_for : Op → Kind
kind_for op.Get = kind.Download
kind_for op.Copy = kind.Copy
kind_for op.PartCopy = kind.Copy
kind_for op.Delete = kind.RemoveObject
kind_for of_op = kind.Upload

abbrev pub IsAnObject : Place → Type 0
IsAnObject (place.Object bucket key) = Unit {0}
IsAnObject (place.File path) = ⊥

abbrev pub IsAnObjectIn : Option Place → Type 0
IsAnObjectIn None = ⊥
IsAnObjectIn (Some of_place) = IsAnObject of_place

pub record IsTaskFor (of_op : Op) (task : Task) : Type 0 where
  pub kind_is : task.kind ≡ kind_for of_op
  pub source : IsAnObjectIn task.source
  pub dest : IsAnObject task.dest

-- how many bytes stand in the part of a job that ended so
abbrev pub body_of : Ending → ℕ
body_of (ending.Gained (reply.Got status range count)) = count
body_of ended = 4
