-- The jobs that a task can have.
use Rattle.std.specs.Prelude.{◌++◌, [], ◌∷◌, Bool, true, false, List}
use Rattle.s3_model.specs.declared.requests.Op.TheVariants as op
use Rattle.s3_model.specs.declared.tasks.Kind.{Kind}
use Rattle.s3_model.specs.declared.tasks.Kind.TheVariants as kind
use Rattle.task_acts.specs.declared.acts.Act.{Act}
use Rattle.task_acts.specs.declared.acts.Act.TheVariants as act
use Rattle.task_acts.specs.declared.work.Work.{Work}
use Rattle.task_acts.specs.Rule.{piece_sends}

-- what goes in parts is created, and completed or aborted
abbrev pub upload_jobs : (small : Bool) → List Act
upload_jobs true = []
upload_jobs false = act.Send op.Create 0 ∷ act.Send op.Complete 0 ∷ act.Send op.Abort 0 ∷ []

-- an object that is moved is deleted
abbrev pub source_jobs : (moves : Bool) → List Act
source_jobs true = act.Send op.Delete 0 ∷ []
source_jobs false = []

abbrev pub jobs_for : Work → Kind → List Act
jobs_for w kind.Upload = piece_sends w ++ upload_jobs w.small
jobs_for w kind.Download = piece_sends w ++ source_jobs w.moves
jobs_for w kind.Copy = piece_sends w ++ upload_jobs w.small ++ source_jobs w.moves
jobs_for w kind.RemoveObject = act.Send op.Delete 0 ∷ []
jobs_for w kind.RemoveFile = []

-- the job of each piece, and what comes before and after them
abbrev pub jobs_of : Work → List Act
jobs_of w = jobs_for w w.of_kind
