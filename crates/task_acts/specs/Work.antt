-- What a task is to do, as far as its acts depend on it.
use Rattle.std.specs.Prelude.{◌≡◌, ◌+◌, ◌&&◌, ℕ, Bool, true, false, List, nat_lt, if◌then◌else◌}
use Rattle.std.specs.List.{range_with_len}
use Rattle.s3_model.specs.declared.requests.Op.{Op}
use Rattle.s3_model.specs.declared.requests.Op.TheVariants as op
use Rattle.s3_model.specs.declared.settings.Config.{Config}
use Rattle.s3_model.specs.declared.settings.Limits.{Limits}
use Rattle.s3_model.specs.declared.tasks.Kind.{Kind}
use Rattle.s3_model.specs.declared.tasks.Kind.TheVariants as kind
use Rattle.s3_model.specs.declared.tasks.Task.{Task}
use Rattle.s3_model.specs.Parts.{HasPieces}
use Rattle.job_terms.specs.Ops.{deciding}
use Rattle.task_acts.specs.declared.work.Work.{Work}

-- the work of a task under a configuration and the limits of a service
pub record IsWorkOf (task : Task) (config : Config) (limits : Limits) (w : Work) : Type 0 where
  pub kind_is : w.of_kind ≡ task.kind
  pub moves_is : w.moves ≡ task.moves
  pub size_is : w.size ≡ task.size
  pub small_is : w.small ≡ nat_lt task.size config.threshold
  pub pieces : HasPieces config limits task.kind task.size w.piece w.count
  pub attempts_are : w.attempts ≡ config.attempts
  -- a task that must not replace its destination ends in ways that are not said here
  pub replaces : task.fresh ≡ false

-- the number of the first piece: parts and ranges are numbered from 1, a single piece is number 0
abbrev pub first_number : Work → ℕ
first_number w = if w.small then 0 else 1

abbrev pub numbers : Work → List ℕ
numbers w = range_with_len (first_number w) w.count

abbrev pub is_piece : Work → ℕ → Bool
is_piece w number = nat_lt number (first_number w + w.count) && nat_lt (first_number w) (number + 1)

-- the request of a piece
abbrev pub piece_op : Kind → (small : Bool) → Op
piece_op kind.Upload true = op.Put
piece_op kind.Upload false = op.Part
piece_op kind.Download small = op.Get
piece_op kind.Copy true = op.Copy
piece_op kind.Copy false = op.PartCopy
piece_op of_kind small = op.Delete

-- the request that decides a task whose destination is an object
abbrev pub deciding_op : Work → Op
deciding_op w = deciding w.of_kind w.small
