-- What the job of an act is for.
use Rattle.std.specs.Arc.{arc_value}
use Rattle.std.specs.Prelude.{◌≡◌, ℕ, List, Option, Some, None}
use Rattle.jobs.specs.declared.what.What.{What}
use Rattle.jobs.specs.declared.what.What.TheVariants as what
use Rattle.s3_model.specs.Lists.{Reserved}
use Rattle.s3_model.specs.Parts.{piece_range}
use Rattle.s3_model.specs.declared.requests.Op.{Op}
use Rattle.s3_model.specs.declared.requests.Op.TheVariants as op
use Rattle.s3_model.specs.declared.tasks.Task.{Task}
use Rattle.task_acts.specs.Histories.{History}
use Rattle.task_acts.specs.Kept.{etags_of, upload_of}
use Rattle.task_acts.specs.declared.work.Work.{Work}
use Rattle.kept_jobs.specs.Tags.{present}

-- the entity tags that a job is given: a Complete has those of all parts
abbrev pub HasTags : Work → History → Op → Option (Reserved (List ℕ)) → Type 0
HasTags w history op.Complete etags = (given : Reserved (List ℕ)) × (etags ≡ Some given)
    × (given.items ≡ present (etags_of w history))
HasTags w history of_op etags = etags ≡ None

-- what a job is for that is formed for an act after that history: its piece, the upload that a reply named, and tags
abbrev pub IsStepOf : Task → Work → History → Op → (number : ℕ) → What → Type 0
IsStepOf task w history of_op number (what.Plan asked) = ⊥
IsStepOf task w history of_op number (what.Step of_task range upload etags) =
    (arc_value of_task ≡ task) × (range ≡ piece_range w.size w.piece number) × (upload ≡ upload_of history)
    × HasTags w history of_op etags
