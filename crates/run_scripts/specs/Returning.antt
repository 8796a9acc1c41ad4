-- How a job comes back.
use Rattle.std.specs.Prelude.{◌≡◌, ◌≤◌, ℕ, Option, Some, None, IfSome, length}
use Rattle.jobs.specs.Endings.{IsEnded, SeenCarried}
use Rattle.jobs.specs.Jobs.{SeenJob}
use Rattle.jobs.specs.declared.ending.Ending.{Ending}
use Rattle.jobs.specs.declared.ending.Ending.TheVariants as ending
use Rattle.s3_model.specs.declared.answers.Reply.TheVariants as reply
use Rattle.s3_model.specs.declared.bytes.Part.{Part}

-- how many bytes a Get brought
abbrev pub length_of : Ending → Option ℕ
length_of (ending.Gained (reply.Got status range count)) = Some count
length_of ended = None

-- as many bytes fit into the part
abbrev pub FitsIn : Option ℕ → Option Part → Type 0
FitsIn None part = Unit {0}
FitsIn (Some count) part = IfSome part (λ place. count ≤ place.bytes.room)

-- as many bytes stand in the part
abbrev pub HasLength : Option ℕ → Option Part → Type 0
HasLength None part = Unit {0}
HasLength (Some count) part = IfSome part (λ place. length place.bytes.bytes ≡ count)

-- how much room a part has
abbrev pub room_of : Option Part → Option ℕ
room_of None = None
room_of (Some part) = Some part.bytes.room

-- the same id, cell and attempts before, and a part with the same room, whatever bytes it has by now
pub record IsSameJob (given now : SeenJob) : Type 0 where
  pub id : now.id ≡ given.id
  pub cell : now.cell ≡ given.cell
  pub had : now.had ≡ given.had
  pub room : room_of now.part ≡ room_of given.part

-- It is the job that was given, and ended after at most ten attempts.
pub record ComesOf (given : SeenJob) (carried : SeenCarried) : Type 0 where
  pub same : IsSameJob given carried.job
  pub few : length carried.tries ≤ 10
  pub ended : IsEnded carried.ending carried.job.id.op carried.job.part carried.job.cell carried.tries
