-- Tasks that end let their jobs go.
use Rattle.std.proofs.Common.{◌≡◌, ◌∙◌, ◌==◌, ◌&&◌, ◌<◌, [], ◌∷◌, ℕ, zero, suc, Bool, true, false, List, Option, Some}
use Rattle.std.proofs.Common.{None, refl, sym, subst, ap, arith, get_or, length, length-set, not, set, if◌then◌else◌}
use Rattle.std.proofs.lemmas.Bool.{eqb-true}
use Rattle.std.proofs.lemmas.List.{get_or-set_other, get_or-set_same}
use Rattle.std.specs.Prelude.{is_some, nat_lt, slice_get}
use Rattle.manager_moves.proofs.CountLemmas.{no}
use Rattle.manager_moves.proofs.HoldLemmas.{same_number}
use Rattle.manager_moves.proofs.PartLaws.{nothing}
use Rattle.manager_moves.specs.Runs.{Back, Called, Event, Events, Lined, Made, Sent, Shared, Stopped, lacks_memory}
use Rattle.manager_moves.specs.Runs.{made_count, outcome_in, share}
use Rattle.s3_model.specs.declared.outcomes.Cause.TheVariants as cause
use Rattle.s3_model.specs.declared.outcomes.Outcome.{Outcome}
use Rattle.s3_model.specs.declared.outcomes.Outcome.TheVariants as outcome
use Rattle.s3_model.specs.declared.tasks.Task.{Task}
use Rattle.step_jobs.specs.Shares.{SeenSteps}
use Rattle.task_acts.specs.declared.work.Work.{Work}
use Rattle.task_acts.specs.Ends.{outcome_of}
use Rattle.task_acts.specs.Histories.{History}
use Rattle.run_steps.proofs.Growth.{none_made, share_apart, step_after}
use Rattle.run_steps.specs.Following.{EachSettles, IsAtOne, IsOfOne, LinesLeaveJobs, OneSettles, TellOutcomes}
use Rattle.run_steps.specs.Steps.{HoldSteps, HoldsStep, is_going, settled_step, settled_steps}

pub slice_within : {X : Type 0} (xs : List X) (n : ℕ) (x : X) → slice_get xs n ≡ Some x → n < length xs
slice_within [] n x e = absurd (nothing e)
slice_within (y ∷ ys) zero x e = omega arith
slice_within (y ∷ ys) (suc n) x e = let rest = slice_within ys n x e in omega arith

-- ---- the place of one task

module _ (t : ℕ) (outcomes : List (Option Outcome)) (steps : List (Option SeenSteps)) (within : t < length steps) where
  not_equal : (n : ℕ) → (t == n) ≡ false → t ≡ n → ⊥
  not_equal n apart same = no (sym apart ∙ ap (λ (k : ℕ). t == k) (sym same) ∙ same_number t)

  get_set : (n : ℕ) (b : Bool) → (t == n) ≡ b
      → get_or (set steps t None) n None ≡ (if b then None else get_or steps n None)
  get_set n true e = ap (λ (k : ℕ). get_or (set steps t None) k None) (sym (eqb-true t n e))
      ∙ get_or-set_same steps t None None within
  get_set n false e = get_or-set_other steps t n None None (λ same. not_equal n e (sym same))

  get_by : (ended : Bool) (n : ℕ) → get_or (if ended then set steps t None else steps) n None
      ≡ (if t == n then (if ended then None else get_or steps n None) else get_or steps n None)
  get_by true n = get_set n (t == n) refl
  get_by false n = by (t == n)
    where
      by : (b : Bool) → get_or steps n None ≡ (if b then get_or steps n None else get_or steps n None)
      by true = refl
      by false = refl

  pub get_settled : (n : ℕ) → get_or (settled_steps t outcomes steps) n None
      ≡ (if t == n then settled_step outcomes t (get_or steps n None) else get_or steps n None)
  get_settled n = get_by (is_some (get_or outcomes t None)) n

  pub settled_count : length (settled_steps t outcomes steps) ≡ length steps
  settled_count = by (is_some (get_or outcomes t None))
    where
      by : (ended : Bool) → length (if ended then set steps t None else steps) ≡ length steps
      by true = length-set steps t None
      by false = refl

-- The places of other tasks hold what they have to, and so does that of this one once it is settled.
module _ (s : Shared) (events : Events) (e : Event) (t : ℕ) (tasks : List Task)
    (steps now : List (Option SeenSteps)) (hold : HoldSteps s events tasks steps) (at_one : IsAtOne t steps now)
    (outcomes : List (Option Outcome)) (tell : TellOutcomes s (e ∷ events) outcomes)
    (apart : (n : ℕ) (w : Work) → (t == n) ≡ false → (is_going w n (e ∷ events) ≡ is_going w n events)
    × (share w n (e ∷ events) ≡ share w n events))
    (its : (task : Task) (w : Work) → slice_get tasks t ≡ Some task → slice_get s.works t ≡ Some w
    → HoldsStep (is_going w t (e ∷ events)) task w (share w t (e ∷ events))
    (if is_some (outcome_in w t (e ∷ events)) then None else get_or now t None)) where
  within : t < length now
  within = let same = at_one.count in let there = at_one.within in omega (arith, same, there)

  place : (n : ℕ) (task : Task) (w : Work) → slice_get tasks n ≡ Some task → slice_get s.works n ≡ Some w → (b : Bool)
      → (t == n) ≡ b → HoldsStep (is_going w n (e ∷ events)) task w (share w n (e ∷ events))
      (if b then settled_step outcomes t (get_or now n None) else get_or now n None)
  place n task w in_plan there true is =
      let here : t ≡ n = eqb-true t n is in
      let its_work = subst (λ (k : ℕ). slice_get s.works k ≡ Some w) (sym here) there in
      subst (λ (k : ℕ). HoldsStep (is_going w k (e ∷ events)) task w (share w k (e ∷ events))
      (settled_step outcomes t (get_or now k None))) here
      (subst (λ (o : Option Outcome). HoldsStep (is_going w t (e ∷ events)) task w (share w t (e ∷ events))
      (if is_some o then None else get_or now t None)) (sym (tell t w its_work))
      (its task w (subst (λ (k : ℕ). slice_get tasks k ≡ Some task) (sym here) in_plan) its_work))
  place n task w in_plan there false is =
      let same = apart n w is in
      subst (λ (o : Option SeenSteps). HoldsStep (is_going w n (e ∷ events)) task w (share w n (e ∷ events)) o)
      (sym (at_one.others n is))
      (subst (λ (b : Bool). HoldsStep b task w (share w n (e ∷ events)) (get_or steps n None)) (sym same.0)
      (subst (λ (h : History). HoldsStep (is_going w n events) task w h (get_or steps n None)) (sym same.1)
      (hold.each n task w in_plan there)))

  pub hold_settled : HoldSteps s (e ∷ events) tasks (settled_steps t outcomes now)
  hold_settled = record {
    count = settled_count t outcomes now within ∙ at_one.count ∙ hold.count;
    each = λ n task w in_plan there. subst
        (λ (o : Option SeenSteps). HoldsStep (is_going w n (e ∷ events)) task w (share w n (e ∷ events)) o)
        (sym (get_settled t outcomes now within n)) (place n task w in_plan there (t == n) refl);
  }

-- ---- the laws

-- another task stays as it was
module _ (n : ℕ) (w : Work) (events : Events) where
  abbrev going_in : History → Bool
  going_in h = nat_lt n (made_count events) && not (is_some (if nat_lt n (made_count events)
      then (if lacks_memory n events then Some (outcome.Failed cause.Memory) else outcome_of w h) else None))

  going_apart : (t : ℕ) (e : Event) → IsOfOne t e → (t == n) ≡ false
      → is_going w n (e ∷ events) ≡ is_going w n events
  going_apart t (Sent task o k lane) is apart = ap going_in (share_apart w n events t (Sent task o k lane) is apart)
  going_apart t (Called task a r) is apart = ap going_in (share_apart w n events t (Called task a r) is apart)
  going_apart t (Back lane c) is apart = ap going_in (share_apart w n events t (Back lane c) is apart)
  going_apart t (Made fits) is apart = absurd is
  going_apart t Lined is apart = absurd is
  going_apart t (Stopped reason) is apart = absurd is

  pub stays_apart : (t : ℕ) (e : Event) → IsOfOne t e → (t == n) ≡ false
      → (is_going w n (e ∷ events) ≡ is_going w n events) × (share w n (e ∷ events) ≡ share w n events)
  stays_apart t e is apart = (going_apart t e is apart, share_apart w n events t e is apart)

-- ---- the laws

pub one_settles : OneSettles
one_settles s events e t tasks steps outcomes is within hold tell = hold_settled s events e t tasks steps steps hold
    (record { count = refl; within = within; others = λ n apart. refl }) outcomes tell
    (λ n w apart. stays_apart n w events t e is apart)
    (λ task w in_plan there. step_after task w t events e (get_or steps t None) (none_made t e events is)
    (hold.each t task w in_plan there))

pub each_settles : EachSettles
each_settles s events reason tasks steps now outcomes hold count settled tell = record {
  count = count ∙ hold.count;
  each = λ n task w in_plan there.
      let below = slice_within tasks n task in_plan in
      let same = hold.count in
      subst (λ (o : Option SeenSteps). HoldsStep (is_going w n (Stopped reason ∷ events)) task w
      (share w n (Stopped reason ∷ events)) o)
      (sym (settled n (omega (arith, below, same))))
      (subst (λ (o : Option Outcome). HoldsStep (is_going w n (Stopped reason ∷ events)) task w
      (share w n (Stopped reason ∷ events)) (if is_some o then None else get_or steps n None)) (sym (tell n w there))
      (step_after task w n events (Stopped reason) (get_or steps n None) refl (hold.each n task w in_plan there)));
}

pub lines_leave_jobs : LinesLeaveJobs
lines_leave_jobs s events tasks steps hold = record { count = hold.count; each = hold.each }
