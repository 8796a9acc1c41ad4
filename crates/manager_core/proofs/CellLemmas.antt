-- The cell of a task stays while the task goes on.
use Rattle.std.proofs.Common.{◌≡◌, ◌<◌, ◌≤◌, [], ◌∷◌, ℕ, zero, suc, Bool, true, false, List, Option, Some}
use Rattle.std.proofs.Common.{None, refl, sym, subst, ap, get_or, set, IfSome, if◌then◌else◌}
use Rattle.std.proofs.lemmas.Bool.{ltb-false, ltb-true}
use Rattle.std.specs.Prelude.{is_some, nat_lt}
use Rattle.run_steps.specs.Steps.{settled_step, settled_steps}
use Rattle.s3_model.specs.declared.outcomes.Outcome.{Outcome}
use Rattle.step_jobs.specs.Shares.{SeenSteps}
use Rattle.manager_core.specs.Cells.{CellStays}

pub same_cell : (kept : Option SeenSteps) → CellStays kept kept
same_cell None = tt
same_cell (Some j) = refl

no_cell : (kept : Option SeenSteps) → CellStays kept None
no_cell None = tt
no_cell (Some j) = tt

pub cells_same : (steps now : List (Option SeenSteps)) → now ≡ steps → (n : ℕ)
    → CellStays (get_or steps n None) (get_or now n None)
cells_same steps now same n =
    subst (λ (xs : List (Option SeenSteps)). CellStays (get_or steps n None) (get_or xs n None)) (sym same)
    (same_cell (get_or steps n None))

-- ---- one place is another

-- it holds jobs with that cell
pub set_cell : (steps : List (Option SeenSteps)) (task : ℕ) (now : Option SeenSteps) (n : ℕ)
    → CellStays (get_or steps task None) now → CellStays (get_or steps n None) (get_or (set steps task now) n None)
set_cell [] task now n stays = tt
set_cell (kept ∷ steps) zero now zero stays = stays
set_cell (kept ∷ steps) zero now (suc n) stays = same_cell (get_or steps n None)
set_cell (kept ∷ steps) (suc task) now zero stays = same_cell kept
set_cell (kept ∷ steps) (suc task) now (suc n) stays = set_cell steps task now n stays

pub other_cell : (steps : List (Option SeenSteps)) (task : ℕ) (now : Option SeenSteps) (n : ℕ) → (task ≡ n → ⊥)
    → CellStays (get_or steps n None) (get_or (set steps task now) n None)
other_cell [] task now n apart = tt
other_cell (kept ∷ steps) zero now zero apart = absurd (apart refl)
other_cell (kept ∷ steps) zero now (suc n) apart = same_cell (get_or steps n None)
other_cell (kept ∷ steps) (suc task) now zero apart = same_cell kept
other_cell (kept ∷ steps) (suc task) now (suc n) apart = other_cell steps task now n (λ same. apart (ap suc same))

-- it holds jobs no longer
unset_cell : (steps : List (Option SeenSteps)) (task n : ℕ) (before : Option SeenSteps)
    → CellStays before (get_or steps n None) → CellStays before (get_or (set steps task None) n None)
unset_cell [] task n before stays = stays
unset_cell (kept ∷ steps) zero zero before stays = no_cell before
unset_cell (kept ∷ steps) zero (suc n) before stays = stays
unset_cell (kept ∷ steps) (suc task) zero before stays = stays
unset_cell (kept ∷ steps) (suc task) (suc n) before stays = unset_cell steps task n before stays

-- what holds of what it holds now
pub at_set : (P : SeenSteps → Type 0) (steps : List (Option SeenSteps)) (task : ℕ) (now : Option SeenSteps)
    → IfSome now P → IfSome (get_or (set steps task now) task None) P
at_set P [] task now holds = tt
at_set P (kept ∷ steps) zero now holds = holds
at_set P (kept ∷ steps) (suc task) now holds = at_set P steps task now holds

-- ---- tasks that end

pub settled_cell : (outcomes : List (Option Outcome)) (task : ℕ) (kept : Option SeenSteps)
    → CellStays kept (settled_step outcomes task kept)
settled_cell outcomes task kept = by (is_some (get_or outcomes task None))
  where
    by : (ended : Bool) → CellStays kept (if ended then None else kept)
    by true = no_cell kept
    by false = same_cell kept

-- the tasks before that one are settled, and the others are as they were
pub swept_cell : (outcomes : List (Option Outcome)) (n swept : ℕ) (before now : Option SeenSteps)
    → (n < swept → now ≡ settled_step outcomes n before) → (swept ≤ n → now ≡ before) → CellStays before now
swept_cell outcomes n swept before now settled others = by (nat_lt n swept) refl
  where
    by : (b : Bool) → nat_lt n swept ≡ b → CellStays before now
    by true e = subst (λ (x : Option SeenSteps). CellStays before x) (sym (settled (ltb-true n swept e)))
        (settled_cell outcomes n before)
    by false e = subst (λ (x : Option SeenSteps). CellStays before x) (sym (others (ltb-false n swept e)))
        (same_cell before)

module _ (outcomes : List (Option Outcome)) (task : ℕ) (now : List (Option SeenSteps)) where
  pub settled_cells : (before : Option SeenSteps) (n : ℕ) → CellStays before (get_or now n None)
      → CellStays before (get_or (settled_steps task outcomes now) n None)
  settled_cells before n stays = by (is_some (get_or outcomes task None))
    where
      by : (ended : Bool) → CellStays before (get_or (if ended then set now task None else now) n None)
      by true = unset_cell now task n before stays
      by false = stays

  pub settled_holds : (P : SeenSteps → Type 0) → IfSome (get_or now task None) P
      → IfSome (get_or (settled_steps task outcomes now) task None) P
  settled_holds P holds = by (is_some (get_or outcomes task None))
    where
      by : (ended : Bool) → IfSome (get_or (if ended then set now task None else now) task None) P
      by true = at_set P now task None tt
      by false = holds

pub cells_settle : (steps now : List (Option SeenSteps)) (task : ℕ) (outcomes : List (Option Outcome))
    → now ≡ settled_steps task outcomes steps → (n : ℕ) → CellStays (get_or steps n None) (get_or now n None)
cells_settle steps now task outcomes settled n =
    subst (λ (xs : List (Option SeenSteps)). CellStays (get_or steps n None) (get_or xs n None)) (sym settled)
    (settled_cells outcomes task steps (get_or steps n None) n (same_cell (get_or steps n None)))
