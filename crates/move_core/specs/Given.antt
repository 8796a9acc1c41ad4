-- What goes with a job that is given.
use Rattle.std.specs.Prelude.{Option, Some, None}
use Rattle.jobs.specs.Jobs.{SeenJob}
use Rattle.s3_model.specs.declared.bytes.Part.{Part}
use Rattle.move_core.specs.declared.giving.Given.{Given}
use Rattle.move_core.specs.declared.giving.Given.TheVariants as given

-- the job that was kept, if it is given again
abbrev pub again_of : Given → Option SeenJob
again_of (given.Again job) = Some job
again_of (given.First part) = None

-- the part that goes with the job
abbrev pub part_with : Given → Option Part
part_with (given.Again job) = job.part
part_with (given.First part) = part
