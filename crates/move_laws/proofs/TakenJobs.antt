-- A job that is kept is taken from a task that has stopped, and nothing else is said of the task than before.
use Rattle.std.proofs.Common.{◌≡◌, ◌∷◌, ℕ, Bool, true, false, Option, None, refl, sym, subst, if◌then◌else◌}
use Rattle.alike_histories.proofs.Alike.{taking_stays_alike}
use Rattle.jobs.specs.Jobs.{SeenJob}
use Rattle.kept_jobs.specs.Slots.{job_at}
use Rattle.s3_model.specs.declared.requests.Op.{Op}
use Rattle.task_acts.specs.declared.acts.Act.TheVariants as act
use Rattle.task_acts.specs.declared.work.Work.{Work}
use Rattle.task_acts.specs.Failures.{is_stopped}
use Rattle.task_acts.specs.Histories.{History, Taken, is_act}
use Rattle.task_core.specs.Machine.{SeenTask, Stands}
use Rattle.move_laws.proofs.FileCalls.{has_its_part}
use Rattle.move_laws.specs.Follows.{HasItsPart, IsTaskIn}

module _ (room : ℕ) (w : Work) (h : History) (o : Op) (n : ℕ) (t new : SeenTask) (stopped : is_stopped w h ≡ true)
    (others : (other : Op) (at : ℕ) → job_at new.kept other at
    ≡ (if is_act (act.Send other at) (act.Send o n) then None else job_at t.kept other at))
    (is : IsTaskIn room w h t) where
  parts_stay : (other : Op) (at : ℕ) → HasItsPart room other (job_at new.kept other at)
  parts_stay other at = subst (λ (job : Option SeenJob). HasItsPart room other job) (sym (others other at))
      (has_its_part room other (is_act (act.Send other at) (act.Send o n)) (job_at t.kept other at) (is.parts other at))

  pub stays_in : (some : Bool)
      → (some ≡ true → (v : Work) (g : History) → Stands v g t → Stands v (Taken o n ∷ g) new)
      → (some ≡ false → (v : Work) (g : History) → Stands v g t → Stands v g new) → IsTaskIn room w h new
  stays_in true taken none = record {
    heard = Taken o n ∷ is.heard;
    stands = taken refl w is.heard is.stands;
    alike = taking_stays_alike w is.heard h o n stopped is.alike;
    parts = parts_stay;
  }
  stays_in false taken none = record {
    heard = is.heard;
    stands = none refl w is.heard is.stands;
    alike = is.alike;
    parts = parts_stay;
  }
