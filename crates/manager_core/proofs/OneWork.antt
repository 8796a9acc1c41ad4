-- A task has one work.
use Rattle.std.proofs.Common.{◌≡◌, ◌∙◌, [], ◌∷◌, ℕ, zero, suc, Bool, List, Some, refl, sym, subst, ap, arith, length}
use Rattle.std.specs.Prelude.{slice_get}
use Rattle.manager_moves.proofs.PartLaws.{nothing, same_value}
use Rattle.run_needs.specs.Needs.{AreWorksOf}
use Rattle.s3_model.specs.declared.settings.Config.{Config}
use Rattle.s3_model.specs.declared.settings.Limits.{Limits}
use Rattle.s3_model.specs.declared.tasks.Kind.{Kind}
use Rattle.s3_model.specs.declared.tasks.Task.{Task}
use Rattle.task_acts.specs.declared.work.Work.{Work}
use Rattle.task_acts.specs.Work.{IsWorkOf}
use Rattle.job_terms.proofs.PieceCounts.{pieces_are_one}

module _ (config : Config) (limits : Limits) where
  abbrev made_of : Kind → Bool → Bool → (size piece count attempts : ℕ) → Work
  made_of of_kind moves small size piece count attempts = record {
    of_kind = of_kind;
    moves = moves;
    small = small;
    size = size;
    piece = piece;
    count = count;
    attempts = attempts;
  }

  pub work_is_one : (task : Task) (v w : Work) → IsWorkOf task config limits v → IsWorkOf task config limits w → v ≡ w
  work_is_one task v w a b =
      let cut = pieces_are_one config limits task.kind task.size v.piece w.piece v.count w.count a.pieces b.pieces in
      ap (λ (x : Kind). made_of x v.moves v.small v.size v.piece v.count v.attempts) (a.kind_is ∙ sym b.kind_is)
      ∙ ap (λ (x : Bool). made_of w.of_kind x v.small v.size v.piece v.count v.attempts) (a.moves_is ∙ sym b.moves_is)
      ∙ ap (λ (x : Bool). made_of w.of_kind w.moves x v.size v.piece v.count v.attempts) (a.small_is ∙ sym b.small_is)
      ∙ ap (λ (x : ℕ). made_of w.of_kind w.moves w.small x v.piece v.count v.attempts) (a.size_is ∙ sym b.size_is)
      ∙ ap (λ (x : ℕ). made_of w.of_kind w.moves w.small w.size x v.count v.attempts) cut.0
      ∙ ap (λ (x : ℕ). made_of w.of_kind w.moves w.small w.size w.piece x v.attempts) cut.1
      ∙ ap (λ (x : ℕ). made_of w.of_kind w.moves w.small w.size w.piece w.count x) (a.attempts_are ∙ sym b.attempts_are)

  pub work_at : (tasks : List Task) (works : List Work) (n : ℕ) (task : Task) (w : Work)
      → AreWorksOf config limits tasks works → slice_get tasks n ≡ Some task → slice_get works n ≡ Some w
      → IsWorkOf task config limits w
  work_at (t ∷ tasks) (v ∷ works) zero task w are in_plan there =
      subst (λ (x : Task). IsWorkOf x config limits w) (same_value in_plan)
      (subst (λ (x : Work). IsWorkOf t config limits x) (same_value there) are.0)
  work_at (t ∷ tasks) (v ∷ works) (suc n) task w are in_plan there = work_at tasks works n task w are.1 in_plan there
  work_at [] works n task w are in_plan there = absurd (nothing in_plan)
  work_at (t ∷ tasks) [] n task w are in_plan there = absurd (nothing there)

  pub works_count : (tasks : List Task) (works : List Work) → AreWorksOf config limits tasks works
      → length works ≡ length tasks
  works_count [] [] are = refl
  works_count (task ∷ tasks) (w ∷ works) are = let rest = works_count tasks works are.1 in omega arith
  works_count [] (w ∷ works) are = absurd are
  works_count (task ∷ tasks) [] are = absurd are
