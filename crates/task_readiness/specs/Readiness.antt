-- Which act of a task is ready, piece by piece and act by act.
use Rattle.std.specs.Prelude.{◌&&◌, ◌||◌, ◌+◌, [], ◌∷◌, ℕ, Bool, true, false, List, Option, Some, None}
use Rattle.s3_model.specs.declared.tasks.Kind.{Kind}
use Rattle.s3_model.specs.declared.tasks.Kind.TheVariants as kind
use Rattle.task_acts.specs.declared.acts.Act.{Act}
use Rattle.task_acts.specs.declared.acts.Act.TheVariants as act
use Rattle.task_acts.specs.Stages.{has_done}
use Rattle.task_stages.specs.Stages.{SeenStages}

-- the calls on files that a task makes once
abbrev pub single_calls : List Act
single_calls = act.Assemble ∷ act.Rename ∷ act.DropTemp ∷ act.Remove ∷ act.Stamp ∷ []

-- the act of the piece with that index, where the pieces are numbered from there
abbrev pub numbered : (ℕ → Act) → (first : ℕ) → Option ℕ → Option Act
numbered act_of first None = None
numbered act_of first (Some index) = Some (act_of (first + index))

-- an upload or a copy: what is sent in parts is created and completed
abbrev pub has_parts : Kind → Bool
has_parts kind.Upload = true
has_parts kind.Copy = true
has_parts of_kind = false

abbrev pub is_upload : Kind → Bool
is_upload kind.Upload = true
is_upload of_kind = false

abbrev pub is_download : Kind → Bool
is_download kind.Download = true
is_download of_kind = false

-- what has to come before the requests of all pieces
abbrev pub may_send_by : Kind → (small created assembled : Bool) → Bool
may_send_by kind.Upload small created assembled = true
may_send_by kind.Download small created assembled = assembled
may_send_by kind.Copy small created assembled = small || created
may_send_by of_kind small created assembled = false

abbrev pub may_send : SeenStages → Bool
may_send s = may_send_by s.work.of_kind s.work.small (has_done s.singles.create) (has_done s.singles.assemble)

-- what has to come before a file, or the source of a move, is removed by a call on files
abbrev pub may_remove_by : Kind → (moves decided : Bool) → Bool
may_remove_by kind.Upload moves decided = moves && decided
may_remove_by kind.RemoveFile moves decided = true
may_remove_by of_kind moves decided = false

-- what has to come before an object, or the source of a move, is deleted by a request
abbrev pub may_delete_by : Kind → (moves decided stamped : Bool) → Bool
may_delete_by kind.Download moves decided stamped = moves && stamped
may_delete_by kind.Copy moves decided stamped = moves && decided
may_delete_by kind.RemoveObject moves decided stamped = true
may_delete_by of_kind moves decided stamped = false
