-- Each task ends: where no act of it is ready and none is out it has an outcome, and nowhere else.
use Rattle.std.specs.Prelude.{◌≡◌, ◌≢◌, ◌≤◌, ◌&&◌, ℕ, true, None, Contains, IsSome, is_some, not}
use Rattle.s3_model.specs.declared.requests.Op.TheVariants as op
use Rattle.s3_model.specs.declared.settings.Config.{Config}
use Rattle.s3_model.specs.declared.settings.Limits.{Limits}
use Rattle.s3_model.specs.declared.tasks.Task.{Task}
use Rattle.s3_model.specs.Validity.{IsValidConfig, IsValidLimits}
use Rattle.task_acts.specs.declared.acts.Act.TheVariants as act
use Rattle.task_acts.specs.declared.work.Work.{Work}
use Rattle.task_acts.specs.Ends.{outcome_of}
use Rattle.task_acts.specs.Histories.{History}
use Rattle.task_acts.specs.Kept.{IsHistory, etag_of}
use Rattle.task_acts.specs.Rule.{first_ready_in, is_idle_in, is_ready_in}
use Rattle.task_acts.specs.Work.{IsWorkOf, numbers, piece_op}

-- there is a piece, and it is the only one of a small task
pub record HasPiece (w : Work) : Type 0 where
  pub some : 1 ≤ w.count
  pub one : w.small ≡ true → w.count ≡ 1

abbrev pub TasksEnd : Type 0
TasksEnd = (w : Work) (h : History) → HasPiece w → IsHistory w h → first_ready_in w h ≡ None → is_idle_in w h ≡ true
    → IsSome (outcome_of w h)

-- A task that has an outcome is ready for nothing, and nothing of it is out, whatever happens then.
abbrev pub OutcomesAreExact : Type 0
OutcomesAreExact = (w : Work) (h : History) → HasPiece w → IsHistory w h
    → is_some (outcome_of w h) ≡ (not (is_some (first_ready_in w h)) && is_idle_in w h)

-- Each part has its entity tag once the upload is to be completed.
abbrev pub TagsAreThere : Type 0
TagsAreThere = (w : Work) (h : History) (number part : ℕ) → IsHistory w h
    → is_ready_in w h (act.Send op.Complete number) ≡ true → Contains (numbers w) part
    → etag_of h (act.Send (piece_op w.of_kind w.small) part) ≢ None

-- the work of every task has pieces so
abbrev pub WorkHasPieces : Type 0
WorkHasPieces = (task : Task) (config : Config) (limits : Limits) (w : Work) → IsValidConfig config
    → IsValidLimits limits → IsWorkOf task config limits w → HasPiece w
