-- Tasks that are made with their jobs.
use Rattle.std.proofs.Common.{◌≡◌, ◌∙◌, ◌==◌, ◌&&◌, ◌+◌, [], ◌∷◌, ℕ, zero, suc, Bool, true, false}
use Rattle.std.proofs.Common.{Option, Some, None, refl, sym, subst, ap, arith, get_or, length, not}
use Rattle.std.proofs.Common.{replicate, if◌then◌else◌}
use Rattle.std.proofs.lemmas.Bool.{eq-eqb, false_from_ne_true, lt-ltb, ltb-false, ltb-true}
use Rattle.std.proofs.lemmas.List.{length-replicate}
use Rattle.std.specs.Prelude.{is_some, nat_lt}
use Rattle.kept_jobs.specs.Slots.{HasSlot}
use Rattle.manager_moves.proofs.CountLemmas.{no}
use Rattle.manager_moves.proofs.HoldLemmas.{same_number}
use Rattle.manager_moves.specs.Runs.{Events, Made, lacks_memory, made_count, outcome_in, share}
use Rattle.s3_model.specs.declared.outcomes.Cause.TheVariants as cause
use Rattle.s3_model.specs.declared.outcomes.Outcome.{Outcome}
use Rattle.s3_model.specs.declared.outcomes.Outcome.TheVariants as outcome
use Rattle.s3_model.specs.declared.tasks.Task.{Task}
use Rattle.step_jobs.specs.Shares.{SeenSteps}
use Rattle.task_acts.specs.declared.work.Work.{Work}
use Rattle.task_acts.specs.Ends.{outcome_of}
use Rattle.task_acts.specs.Histories.{History}
use Rattle.run_steps.proofs.Settling.{hold_settled}
use Rattle.run_steps.specs.Following.{IsFull, JobsBegin, JobsMade}
use Rattle.run_steps.specs.Steps.{HoldsStep, is_going}

-- ---- the start

same_at : {X : Type 0} (count n : ℕ) (x : X) → get_or (replicate count x) n x ≡ x
same_at zero n x = refl
same_at (suc count) zero x = refl
same_at (suc count) (suc n) x = same_at count n x

not_made : (w : Work) (n : ℕ) → is_going w n [] ≡ false
not_made w n = by (nat_lt n 0)
    (false_from_ne_true (nat_lt n 0) (λ e. let below = ltb-true n 0 e in omega (arith, below)))
  where
    by : (b : Bool) → b ≡ false → (b && not (is_some (if b then outcome_of w [] else None))) ≡ false
    by true e = no (sym e)
    by false e = refl

pub jobs_begin : JobsBegin
jobs_begin s tasks = record {
  count = length-replicate (length tasks) None;
  each = λ n task w in_plan there. subst
      (λ (b : Bool). HoldsStep b task w (share w n []) (get_or (replicate (length tasks) None) n None))
      (sym (not_made w n)) (same_at (length tasks) n None);
}

-- ---- the next task

full_step : (task : Task) (w : Work) (h : History) (kept : Option SeenSteps) → IsFull task w kept
    → HoldsStep true task w h kept
full_step task w h None full = full
full_step task w h (Some j) full = record {
  task_is = full.0;
  work_is = full.1;
  shares = λ o k inside waiting. full.2 o k (subst (λ (v : Work). HasSlot v o k) (sym full.1) inside);
}

module _ (events : Events) (fits : Bool) where
  abbrev t : ℕ
  t = made_count events

  abbrev after : Events
  after = Made fits ∷ events

  made_now : nat_lt t (t + 1) ≡ true
  made_now = lt-ltb t (t + 1) (omega arith)

  lost_by : (a b lacks : Bool) (o : Option Outcome) → a ≡ true → b ≡ true → is_some (if a
      then (if (if b then true else lacks) then Some (outcome.Failed cause.Memory) else o) else None) ≡ true
  lost_by true true lacks o f g = refl
  lost_by true false lacks o f g = no g
  lost_by false b lacks o f g = no f

  -- it has failed where memory ran out
  lost_now : (w : Work) → fits ≡ false → is_some (outcome_in w t after) ≡ true
  lost_now w lost = subst (λ (f : Bool). is_some (outcome_in w t (Made f ∷ events)) ≡ true) (sym lost)
      (lost_by (nat_lt t (t + 1)) (t == t) (lacks_memory t events) (outcome_of w (share w t events)) made_now
      (same_number t))

  step_made : (task : Task) (w : Work) (kept : Option SeenSteps) → (fits ≡ true → IsFull task w kept)
      → HoldsStep (is_going w t after) task w (share w t after)
      (if is_some (outcome_in w t after) then None else kept)
  step_made task w kept full = subst (λ (b : Bool). HoldsStep (b && not (is_some (outcome_in w t after))) task w
      (share w t after) (if is_some (outcome_in w t after) then None else kept)) (sym made_now)
      (by (is_some (outcome_in w t after)) refl fits refl)
    where
      by : (ended : Bool) → is_some (outcome_in w t after) ≡ ended → (f : Bool) → fits ≡ f
          → HoldsStep (true && not ended) task w (share w t after) (if ended then None else kept)
      by true e f is = refl
      by false e true is = full_step task w (share w t after) kept (full is)
      by false e false is = no (sym e ∙ lost_now w is)

  -- another task stays as it was
  more_made : (n : ℕ) → (t == n) ≡ false → nat_lt n (t + 1) ≡ nat_lt n t
  more_made n apart = by (nat_lt n t) refl (nat_lt n (t + 1)) refl
    where
      by : (a : Bool) → nat_lt n t ≡ a → (b : Bool) → nat_lt n (t + 1) ≡ b → b ≡ a
      by true below true below_next = refl
      by false below false below_next = refl
      by true below false below_next =
          let less = ltb-true n t below in
          no (sym below_next ∙ lt-ltb n (t + 1) (omega (arith, less)))
      by false below true below_next =
          let more = ltb-false n t below in
          let less = ltb-true n (t + 1) below_next in
          no (sym apart ∙ eq-eqb t n (omega (arith, more, less)))

  lacks_apart : (f : Bool) (n : ℕ) → (t == n) ≡ false → lacks_memory n (Made f ∷ events) ≡ lacks_memory n events
  lacks_apart true n apart = refl
  lacks_apart false n apart = ap (λ (b : Bool). if b then true else lacks_memory n events) apart

  module _ (w : Work) (n : ℕ) where
    abbrev going_at : Bool → Bool → Bool
    going_at made_so lacks = made_so && not (is_some (if made_so
        then (if lacks then Some (outcome.Failed cause.Memory) else outcome_of w (share w n events)) else None))

    going_apart : (t == n) ≡ false → is_going w n after ≡ is_going w n events
    going_apart apart = ap (λ (b : Bool). going_at b (lacks_memory n after)) (more_made n apart)
        ∙ ap (λ (b : Bool). going_at (nat_lt n t) b) (lacks_apart fits n apart)

pub jobs_made : JobsMade
jobs_made s events fits tasks steps now outcomes hold at_one full tell =
    hold_settled s events (Made fits) (made_count events) tasks steps now hold at_one outcomes tell
    (λ n w apart. (going_apart events fits w n apart, refl))
    (λ task w in_plan there. step_made events fits task w (get_or now (made_count events) None)
    (λ fine. full fine task w in_plan there))
