-- The place for the jobs of one task.
use Rattle.std.specs.Prelude.{◌≡◌, Option, Some, None}
use Rattle.step_jobs.specs.Formed.{FitsJob}
use Rattle.step_jobs.specs.Shares.{HasShare, HearsReason, SeenSteps}
use Rattle.step_jobs.specs.declared.step_jobs.Given.{Given}

-- there are jobs, and what is given fits the one that is formed
abbrev pub CanForm : Option SeenSteps → Given → Type 0
CanForm None given = ⊥
CanForm (Some j) given = HasShare j given.id.op given.id.number × FitsJob j.task j.work given

-- the jobs that are there hear a reason; without jobs nothing hears it
abbrev pub HeardBy : (before now : Option SeenSteps) → Type 0
HeardBy None now = now ≡ None
HeardBy (Some j) None = ⊥
HeardBy (Some j) (Some new) = HearsReason j new
