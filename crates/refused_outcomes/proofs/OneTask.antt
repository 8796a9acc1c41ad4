-- A plan of one task.
use Rattle.std.proofs.Common.{◌≡◌, ℕ, [], ◌∷◌, Some, sym, subst, slice_get}
use Rattle.s3_model.specs.declared.tasks.Task.{Task}
use Rattle.world_laws.proofs.ScheduleWitness.{one_task}

-- what holds of that task holds of each task of the plan
pub only : (t : Task) (P : ℕ → Task → Type 0) → P 0 t → (n : ℕ) (task : Task) → slice_get (t ∷ []) n ≡ Some task → P n task
only t P here n task is =
    let one = one_task t n task is in
    subst (λ (x : Task). P n x) (sym one.1) (subst (λ (k : ℕ). P k t) (sym one.0) here)
