-- How far the acts of a task are, by those that it has once and by its pieces.
use Rattle.std.specs.Prelude.{◌≡◌, ◌≤◌, ◌<◌, ◌+◌, ◌-◌, ◌^◌, ◌==◌, ◌||◌, not, ℕ, Bool, true, false, List, get_or, length, nat_lt, set, if◌then◌else◌}
use Rattle.piece_stages.specs.declared.piece.PieceStages.{PieceStages}
use Rattle.piece_stages.specs.Pieces.{SeenPieces, no_piece}
use Rattle.job_terms.specs.Ops.{is_op}
use Rattle.s3_model.specs.declared.requests.Op.{Op}
use Rattle.s3_model.specs.declared.requests.Op.TheVariants as op
use Rattle.s3_model.specs.declared.tasks.Kind.{Kind}
use Rattle.s3_model.specs.declared.tasks.Kind.TheVariants as kind
use Rattle.task_acts.specs.declared.acts.Act.{Act}
use Rattle.task_acts.specs.declared.acts.Act.TheVariants as act
use Rattle.task_acts.specs.declared.acts.Stage.{Stage}
use Rattle.task_acts.specs.declared.acts.Stage.TheVariants as at
use Rattle.task_acts.specs.Stages.{is_out}
use Rattle.task_acts.specs.Work.{first_number, piece_op}
use Rattle.task_acts.specs.declared.work.Work.{Work}
use Rattle.task_stages.specs.declared.singles.Singles.{Singles}

-- what contracts see of the acts of a task
pub record SeenStages : Type 0 where
  pub work : Work
  pub singles : Singles
  pub pieces : List PieceStages

abbrev pub no_single : Singles
no_single = record {
  create = at.Waiting;
  complete = at.Waiting;
  abort = at.Waiting;
  delete = at.Waiting;
  assemble = at.Waiting;
  rename = at.Waiting;
  drop_temp = at.Waiting;
  remove = at.Waiting;
  stamp = at.Waiting;
}

abbrev pub is_idle_single : Singles → Bool
is_idle_single s = not (is_out s.assemble || is_out s.rename || is_out s.drop_temp || is_out s.remove || is_out s.stamp
    || is_out s.create || is_out s.complete || is_out s.abort || is_out s.delete)

-- only an upload reads its pieces before it sends them
abbrev pub reads_first : Kind → Bool
reads_first kind.Upload = true
reads_first of_kind = false

abbrev pub removes : Kind → Bool
removes kind.RemoveObject = true
removes kind.RemoveFile = true
removes of_kind = false

-- how many pieces are moved: none where the destination is removed
abbrev pub piece_count : Work → ℕ
piece_count work = if removes work.of_kind then 0 else work.count

-- there are as many pieces as the work says
pub record IsWhole (work : Work) (pieces : SeenPieces) : Type 0 where
  pub many : length pieces.stages ≡ piece_count work
  pub few : work.count + 1 < 2 ^ 32
  pub order : pieces.reads_first ≡ reads_first work.of_kind

-- ---- how far each act is

abbrev pub piece_at : SeenStages → (number : ℕ) → PieceStages
piece_at s number =
    if nat_lt number (first_number s.work) then no_piece else get_or s.pieces (number - first_number s.work) no_piece

abbrev pub sent_at : SeenStages → Op → (number : ℕ) → Stage
sent_at s of_op number =
    if is_op of_op (piece_op s.work.of_kind s.work.small) then (piece_at s number).send else at.Waiting

abbrev pub stage_by : SeenStages → Act → Stage
stage_by s (act.Send op.Create number) = if number == 0 then s.singles.create else at.Waiting
stage_by s (act.Send op.Complete number) = if number == 0 then s.singles.complete else at.Waiting
stage_by s (act.Send op.Abort number) = if number == 0 then s.singles.abort else at.Waiting
stage_by s (act.Send op.Delete number) = if number == 0 then s.singles.delete else at.Waiting
stage_by s (act.Send op.Put number) = sent_at s op.Put number
stage_by s (act.Send op.Part number) = sent_at s op.Part number
stage_by s (act.Send op.Get number) = sent_at s op.Get number
stage_by s (act.Send op.Copy number) = sent_at s op.Copy number
stage_by s (act.Send op.PartCopy number) = sent_at s op.PartCopy number
stage_by s (act.Read number) = (piece_at s number).read
stage_by s (act.Place number) = (piece_at s number).place
stage_by s act.Assemble = s.singles.assemble
stage_by s act.Rename = s.singles.rename
stage_by s act.DropTemp = s.singles.drop_temp
stage_by s act.Remove = s.singles.remove
stage_by s act.Stamp = s.singles.stamp
stage_by s of_act = at.Waiting

-- ---- one act is further

abbrev pub with_piece : SeenStages → (number : ℕ) → PieceStages → SeenStages
with_piece s number piece = record s { pieces = set s.pieces (number - first_number s.work) piece }

abbrev pub with_stage : SeenStages → Act → Stage → SeenStages
with_stage s (act.Send op.Create number) how = record s { singles = record s.singles { create = how } }
with_stage s (act.Send op.Complete number) how = record s { singles = record s.singles { complete = how } }
with_stage s (act.Send op.Abort number) how = record s { singles = record s.singles { abort = how } }
with_stage s (act.Send op.Delete number) how = record s { singles = record s.singles { delete = how } }
with_stage s (act.Send of_op number) how =
    with_piece s number (record { read = (piece_at s number).read; send = how; place = (piece_at s number).place })
with_stage s (act.Read number) how =
    with_piece s number (record { read = how; send = (piece_at s number).send; place = (piece_at s number).place })
with_stage s (act.Place number) how =
    with_piece s number (record { read = (piece_at s number).read; send = (piece_at s number).send; place = how })
with_stage s act.Assemble how = record s { singles = record s.singles { assemble = how } }
with_stage s act.Rename how = record s { singles = record s.singles { rename = how } }
with_stage s act.DropTemp how = record s { singles = record s.singles { drop_temp = how } }
with_stage s act.Remove how = record s { singles = record s.singles { remove = how } }
with_stage s act.Stamp how = record s { singles = record s.singles { stamp = how } }

-- ---- the acts that a task has

abbrev pub HasPiece : SeenStages → (number : ℕ) → Type 0
HasPiece s number = (first_number s.work ≤ number) × (number < first_number s.work + length s.pieces)

-- the requests of its pieces have this op
abbrev pub HasSend : SeenStages → Op → (number : ℕ) → Type 0
HasSend s of_op number = (is_op of_op (piece_op s.work.of_kind s.work.small) ≡ true) × HasPiece s number

abbrev pub HasAct : SeenStages → Act → Type 0
HasAct s (act.Send op.Create number) = number ≡ 0
HasAct s (act.Send op.Complete number) = number ≡ 0
HasAct s (act.Send op.Abort number) = number ≡ 0
HasAct s (act.Send op.Delete number) = number ≡ 0
HasAct s (act.Send op.Put number) = HasSend s op.Put number
HasAct s (act.Send op.Part number) = HasSend s op.Part number
HasAct s (act.Send op.Get number) = HasSend s op.Get number
HasAct s (act.Send op.Copy number) = HasSend s op.Copy number
HasAct s (act.Send op.PartCopy number) = HasSend s op.PartCopy number
HasAct s (act.Send of_op number) = ⊥
HasAct s (act.Read number) = HasPiece s number
HasAct s (act.Place number) = HasPiece s number
HasAct s of_act = Unit {0}
