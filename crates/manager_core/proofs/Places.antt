-- The place of one task is set.
use Rattle.std.proofs.Common.{◌≡◌, ◌∙◌, ◌==◌, ◌<◌, ℕ, List, Option, None, sym, ap, get_or, length, length-set, set}
use Rattle.std.proofs.lemmas.List.{get_or-set_other, get_or-set_same, get_or_default}
use Rattle.manager_moves.proofs.CountLemmas.{no}
use Rattle.manager_moves.proofs.HoldLemmas.{same_number}
use Rattle.run_steps.specs.Following.{IsAtOne}
use Rattle.step_jobs.specs.Shares.{SeenSteps}

module _ (t : ℕ) (steps : List (Option SeenSteps)) (x : Option SeenSteps) (within : t < length steps) where
  pub set_at_one : IsAtOne t steps (set steps t x)
  set_at_one = record {
    count = length-set steps t x;
    within = within;
    others = λ n apart. get_or-set_other steps t n x None
        (λ same. no (sym apart ∙ ap (λ (i : ℕ). t == i) same ∙ same_number t));
  }

  -- what was read at it
  pub place_is : (y : Option SeenSteps) → y ≡ get_or steps t y → y ≡ get_or steps t None
  place_is y e = e ∙ get_or_default steps t y None within

  pub set_here : get_or (set steps t x) t None ≡ x
  set_here = get_or-set_same steps t x None within
