-- What the rule of ready acts keeps, in every history and for every kind of task.
use Rattle.std.specs.Prelude.{◌≡◌, ℕ, Bool, true, false}
use Rattle.s3_model.specs.declared.requests.Op.TheVariants as op
use Rattle.s3_model.specs.declared.tasks.Kind.{Kind}
use Rattle.s3_model.specs.declared.tasks.Kind.TheVariants as kind
use Rattle.task_acts.specs.declared.acts.Act.{Act}
use Rattle.task_acts.specs.declared.acts.Act.TheVariants as act
use Rattle.task_acts.specs.declared.acts.Stage.{Stage}
use Rattle.task_acts.specs.declared.work.Work.{Work}
use Rattle.task_acts.specs.Failures.{is_stopped}
use Rattle.task_acts.specs.Histories.{History}
use Rattle.task_acts.specs.Rule.{is_decided, is_done_in, is_each_done, is_idle_in, is_ready_in}
use Rattle.task_acts.specs.Stages.{has_ended, stage}

-- it ends an upload that is given up, drops a temporary file, or sets the time of a renamed one
abbrev pub IsTidying : Act → Type 0
IsTidying (act.Send op.Abort number) = Unit {0}
IsTidying act.DropTemp = Unit {0}
IsTidying act.Stamp = Unit {0}
IsTidying of_act = ⊥

-- After a failure or a cancel nothing is begun.
abbrev pub StopsBegin : Type 0
StopsBegin = (w : Work) (history : History) (of_act : Act) → is_stopped w history ≡ true
    → is_ready_in w history of_act ≡ true → IsTidying of_act

-- An Abort comes for an upload that was created and not completed, and nothing else is out.
pub record IsLast (w : Work) (history : History) : Type 0 where
  pub stopped : is_stopped w history ≡ true
  pub created : is_done_in w history (act.Send op.Create 0) ≡ true
  pub not_completed : is_done_in w history (act.Send op.Complete 0) ≡ false
  pub idle : is_idle_in w history ≡ true

abbrev pub AbortsAreLast : Type 0
AbortsAreLast = (w : Work) (history : History) (number : ℕ)
    → is_ready_in w history (act.Send op.Abort number) ≡ true → (number ≡ 0) × IsLast w history

-- by how far each act is
module _ (w : Work) (stage_of : Act → Stage) (stopped : Bool) where
  -- each part was stored, or copied
  abbrev pub HasEachPart : Kind → Type 0
  HasEachPart kind.Upload = is_each_done w stage_of stopped (act.Send op.Part) ≡ true
  HasEachPart kind.Copy = is_each_done w stage_of stopped (act.Send op.PartCopy) ≡ true
  HasEachPart of_kind = ⊥

  -- the copy came with success, or the downloaded file was renamed and its time set or not
  abbrev pub MayLoseSource : Kind → Type 0
  MayLoseSource kind.Copy = (w.moves ≡ true) × (is_decided w stage_of stopped ≡ true)
  MayLoseSource kind.Download = (w.moves ≡ true) × (has_ended (stage_of act.Stamp) ≡ true)
  MayLoseSource kind.RemoveObject = Unit {0}
  MayLoseSource of_kind = ⊥

-- A Complete comes after each part.
abbrev pub CompletesAreWhole : Type 0
CompletesAreWhole = (w : Work) (history : History) (number : ℕ)
    → is_ready_in w history (act.Send op.Complete number) ≡ true
    → HasEachPart w (stage w history) (is_stopped w history) w.of_kind

-- The source of a move goes last; else only a removal deletes.
abbrev pub SourcesGoLast : Type 0
SourcesGoLast = (w : Work) (history : History) (number : ℕ)
    → is_ready_in w history (act.Send op.Delete number) ≡ true
    → MayLoseSource w (stage w history) (is_stopped w history) w.of_kind
