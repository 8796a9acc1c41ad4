-- The acts that a task has once, by what has to come before them.
use Rattle.std.proofs.Common.{◌≡◌, ◌&&◌, ℕ, Bool, true, false, not, List, length, refl, ap}
use Rattle.std.specs.List.{list_all}
use Rattle.piece_stages.specs.declared.piece.PieceStages.{PieceStages}
use Rattle.piece_stages.specs.Pieces.{is_placed, is_sent}
use Rattle.s3_model.specs.declared.requests.Op.TheVariants as op
use Rattle.s3_model.specs.declared.tasks.Kind.{Kind}
use Rattle.s3_model.specs.declared.tasks.Kind.TheVariants as kind
use Rattle.task_acts.specs.declared.acts.Act.{Act}
use Rattle.task_acts.specs.declared.acts.Act.TheVariants as act
use Rattle.task_acts.specs.Rule.{is_decided, is_due}
use Rattle.task_acts.specs.Stages.{has_done, has_ended}
use Rattle.task_stages.specs.declared.singles.Singles.{Singles}
use Rattle.task_stages.specs.Stages.{piece_count, stage_by}
use Rattle.task_readiness.specs.Readiness.{has_parts, is_download, may_delete_by, may_remove_by}
use Rattle.task_readiness.proofs.Finding.{and_true}
use Rattle.task_readiness.proofs.PieceActs.{each_copied, each_part, each_placed, stages_of, work_of}

module _ (moves : Bool) (size piece count attempts : ℕ) (singles : Singles) (pieces : List PieceStages) where
  abbrev due_of : Kind → (small stopped : Bool) → Act → Bool
  due_of k small stopped a =
      is_due (work_of moves size piece count attempts singles pieces k small) (stage_by (stages_of moves size piece count attempts singles pieces k small)) stopped k a

  abbrev decided_of : Kind → (small stopped : Bool) → Bool
  decided_of k small stopped =
      is_decided (work_of moves size piece count attempts singles pieces k small) (stage_by (stages_of moves size piece count attempts singles pieces k small)) stopped

  abbrev Long : Kind → (small : Bool) → Type 0
  Long k small = length pieces ≡ piece_count (work_of moves size piece count attempts singles pieces k small)

  pub assemble : (k : Kind) (small stopped : Bool) → due_of k small stopped act.Assemble ≡ is_download k
  assemble kind.Download small stopped = refl
  assemble k small stopped = refl

  pub rename : (k : Kind) (small stopped : Bool) → Long k small
      → due_of k small stopped act.Rename ≡ (is_download k && has_done singles.assemble && list_all is_placed pieces)
  rename kind.Download small stopped long =
      ap (λ (b : Bool). has_done singles.assemble && b) (each_placed moves size piece count attempts singles pieces small stopped long)
  rename k small stopped long = refl

  pub drop_temp : (k : Kind) (small stopped : Bool) → due_of k small stopped act.DropTemp ≡ false
  drop_temp kind.Upload small stopped = refl
  drop_temp k small stopped = refl

  pub remove : (k : Kind) (small stopped : Bool) → due_of k small stopped act.Remove ≡ may_remove_by k moves (decided_of k small stopped)
  remove kind.Upload small stopped = refl
  remove k small stopped = refl

  pub create : (k : Kind) (small stopped : Bool) → due_of k small stopped (act.Send op.Create 0) ≡ (has_parts k && not small)
  create kind.Upload small stopped = and_true (not small)
  create kind.Copy small stopped = and_true (not small)
  create k small stopped = refl

  pub complete : (k : Kind) (small stopped : Bool) → Long k small
      → due_of k small stopped (act.Send op.Complete 0) ≡ (has_parts k && not small && has_done singles.create && list_all is_sent pieces)
  complete kind.Upload true stopped long = refl
  complete kind.Upload false stopped long =
      ap (λ (b : Bool). has_done singles.create && b) (each_part moves size piece count attempts singles pieces stopped long)
  complete kind.Copy true stopped long = refl
  complete kind.Copy false stopped long =
      ap (λ (b : Bool). has_done singles.create && b) (each_copied moves size piece count attempts singles pieces stopped long)
  complete k small stopped long = refl

  pub abort : (k : Kind) (small stopped : Bool) → due_of k small stopped (act.Send op.Abort 0) ≡ false
  abort kind.Upload small stopped = refl
  abort k small stopped = refl

  pub delete : (k : Kind) (small stopped : Bool)
      → due_of k small stopped (act.Send op.Delete 0) ≡ may_delete_by k moves (decided_of k small stopped) (has_ended singles.stamp)
  delete kind.Download small stopped = ap (λ (b : Bool). b && has_ended singles.stamp) (and_true moves)
  delete kind.Copy small stopped = ap (λ (b : Bool). b && decided_of kind.Copy small stopped) (and_true moves)
  delete k small stopped = refl
