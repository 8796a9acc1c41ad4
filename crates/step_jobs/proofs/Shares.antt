-- The shares of one task.
use Rattle.std.proofs.Common.{◌≡◌, ◌<◌, ◌+◌, ◌^◌, ◌∙◌, ◌∷◌, ℕ, zero, suc, List, [], Option, Some, None, IfSome, IsSome}
use Rattle.std.proofs.Common.{ap, arith, get_or, length, refl, replicate, rules, set, subst, sym}
use Rattle.std.proofs.lemmas.List.{length-replicate}
use Rattle.jobs.specs.Holders.{Holder}
use Rattle.kept_jobs.specs.Slots.{slot, slots}
use Rattle.s3_model.specs.declared.tasks.Task.{Task}
use Rattle.step_jobs.specs.Shares.{HasAll, HasPlaces, IsShareOf, SeenShare, share_of}
use Rattle.task_acts.specs.declared.work.Work.{Work}

module _ {X : Type 0} (x : X) where
  pub all_alike : (P : X → Type 0) (count place : ℕ) → P x → IfSome (get_or (replicate count (Some x)) place None) P
  all_alike P zero place holds = tt
  all_alike P (suc count) zero holds = holds
  all_alike P (suc count) (suc place) holds = all_alike P count place holds

  pub all_there : (count place : ℕ) → place < count → IsSome (get_or (replicate count (Some x)) place None)
  all_there zero place below = absurd (omega arith)
  all_there (suc count) zero below = refl
  all_there (suc count) (suc place) below = all_there count place (omega arith)

module _ {X : Type 0} where
  pub alike_without : (P : X → Type 0) (xs : List (Option X)) (place at : ℕ) → IfSome (get_or xs at None) P
      → IfSome (get_or (set xs place None) at None) P
  alike_without P [] place at holds = holds
  alike_without P (x ∷ xs) zero zero holds = tt
  alike_without P (x ∷ xs) zero (suc at) holds = holds
  alike_without P (x ∷ xs) (suc place) zero holds = holds
  alike_without P (x ∷ xs) (suc place) (suc at) holds = alike_without P xs place at holds

  pub place_there : (xs : List (Option X)) (place : ℕ) → IsSome (get_or xs place None) → place < length xs
  place_there [] place some = absurd (search rules)
  place_there (x ∷ xs) zero some = omega arith
  place_there (x ∷ xs) (suc place) some = omega (arith, place_there xs place some)

module _ (task : Task) (w : Work) (cell before : Holder) (shares : List (Option SeenShare)) (same : cell ≡ before)
    (is : shares ≡ replicate (slots w) (Some (share_of task before))) where
  -- each place has a share
  pub all_places : w.count + 1 < 2 ^ 32 → HasPlaces task w cell shares
  all_places few = record {
    many = ap (λ (xs : List (Option SeenShare)). length xs) is ∙ length-replicate (slots w) (Some (share_of task before));
    few = few;
    same = λ place. subst (λ (xs : List (Option SeenShare)). IfSome (get_or xs place None) (IsShareOf task cell)) (sym is)
        (all_alike (share_of task before) (IsShareOf task cell) (slots w) place
        (refl, ap (λ (h : Holder). h.cell) (sym same)));
  }

  -- no share is taken
  pub all_shares : HasAll (record { task = task; work = w; cell = cell; shares = shares })
  all_shares of_op number there = subst (λ (xs : List (Option SeenShare)). IsSome (get_or xs (slot w of_op number) None))
      (sym is) (all_there (share_of task before) (slots w) (slot w of_op number) there)
