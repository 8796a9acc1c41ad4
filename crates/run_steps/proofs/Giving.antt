-- Jobs that are given.
use Rattle.std.proofs.Common.{◌≡◌, ◌∙◌, ◌==◌, ◌&&◌, ◌∷◌, ℕ, Bool, true, false, List, Option, Some, None, refl, sym}
use Rattle.std.proofs.Common.{subst, ap, get_or, not, if◌then◌else◌}
use Rattle.std.proofs.lemmas.Bool.{eqb-true}
use Rattle.std.specs.Prelude.{is_some, nat_lt, slice_get}
use Rattle.kept_jobs.specs.Slots.{HasSlot}
use Rattle.manager_moves.proofs.CountLemmas.{no}
use Rattle.manager_moves.proofs.HoldLemmas.{same_number}
use Rattle.manager_moves.proofs.PartLaws.{nothing}
use Rattle.manager_moves.proofs.QueueLaws.{ended_on}
use Rattle.manager_moves.proofs.ShareLaws.{shares_are_histories}
use Rattle.manager_moves.specs.Runs.{Events, Sent, Shared, lacks_memory, made_count, share, with_taken}
use Rattle.job_terms.specs.Ops.{is_op, op_number}
use Rattle.s3_model.specs.declared.outcomes.Cause.TheVariants as cause
use Rattle.s3_model.specs.declared.outcomes.Outcome.{Outcome}
use Rattle.s3_model.specs.declared.outcomes.Outcome.TheVariants as outcome
use Rattle.s3_model.specs.declared.requests.Op.{Op}
use Rattle.s3_model.specs.declared.tasks.Task.{Task}
use Rattle.step_jobs.specs.Shares.{SeenSteps}
use Rattle.step_laws.proofs.ShareLemmas.{giving_takes_share, shares_stay}
use Rattle.step_laws.specs.Following.{HoldsShares, IsTakenFor}
use Rattle.task_acts.specs.declared.acts.Act.{Act}
use Rattle.task_acts.specs.declared.acts.Act.TheVariants as act
use Rattle.task_acts.specs.declared.acts.Stage.{Stage}
use Rattle.task_acts.specs.declared.acts.Stage.TheVariants as at
use Rattle.task_acts.specs.declared.work.Work.{Work}
use Rattle.task_acts.specs.Ends.{outcome_of}
use Rattle.task_acts.specs.Histories.{Gave, History, Taken, is_act}
use Rattle.task_acts.specs.Kept.{IsHistory, kept_job}
use Rattle.task_acts.specs.Stages.{given_stage, is_out, stage}
use Rattle.task_progress.proofs.Quiet.{not_out, outcome_quiet}
use Rattle.task_progress.specs.Progress.{HasPiece}
use Rattle.run_steps.proofs.Growth.{step_grown}
use Rattle.run_steps.proofs.Settling.{stays_apart}
use Rattle.run_steps.specs.Following.{GivenAgain, GivenFirst, IsAtOne, IsSentIn, IsTakenAt}
use Rattle.run_steps.specs.Steps.{HoldSteps, HoldsStep, is_going}

-- ---- a task with a job out has not ended

out_once_given : (how : Stage) → is_out (given_stage how) ≡ true
out_once_given at.Waiting = refl
out_once_given at.Out = refl
out_once_given at.Kept = refl
out_once_given at.Again = refl
out_once_given at.Fine = refl
out_once_given at.Failed = refl

both_true : (a b : Bool) → a ≡ true → b ≡ true → (a && b) ≡ true
both_true true b e f = f
both_true false b e f = no e

pub goes_on_while_out : (w : Work) (h : History) (a : Act) → HasPiece w → IsHistory w h
    → is_out (stage w h a) ≡ true → is_some (outcome_of w h) ≡ false
goes_on_while_out w h a piece holds out = by (is_some (outcome_of w h)) refl
  where
    by : (b : Bool) → is_some (outcome_of w h) ≡ b → b ≡ false
    by true e = no (not_out w h piece holds (outcome_quiet w h piece holds e) a out)
    by false e = refl

given_out : (w : Work) (h : History) (a : Act) (b : Bool) → b ≡ true
    → is_out (if b then given_stage (stage w h a) else stage w h a) ≡ true
given_out w h a true e = out_once_given (stage w h a)
given_out w h a false e = no e

still_goes : (made_so lacks : Bool) (was now : Option Outcome) → is_some now ≡ false
    → (is_some (if made_so then (if lacks then Some (outcome.Failed cause.Memory) else was) else None) ≡ true
    → is_some (if made_so then (if lacks then Some (outcome.Failed cause.Memory) else now) else None) ≡ true)
    → (made_so && not (is_some (if made_so then (if lacks then Some (outcome.Failed cause.Memory) else now) else None)))
    ≡ (made_so && not (is_some (if made_so then (if lacks then Some (outcome.Failed cause.Memory) else was) else None)))
still_goes false lacks was now e stays = refl
still_goes true true was now e stays = refl
still_goes true false None None e stays = refl
still_goes true false (Some x) None e stays = no (stays refl)
still_goes true false was (Some y) e stays = no (sym e)

-- ---- one job

module _ (s : Shared) (events : Events) (t : ℕ) (o : Op) (k lane : ℕ) (tasks : List Task)
    (given : IsSentIn s events t o k lane) where
  abbrev after : Events
  after = Sent t o k lane ∷ events

  pub sent_share : (w : Work) → share w t after ≡ Gave (act.Send o k) ∷ with_taken w o k (share w t events)
  sent_share w =
      ap (λ (b : Bool). if b then Gave (act.Send o k) ∷ with_taken w o k (share w t events) else share w t events)
      (same_number t)

  pub out_now : (w : Work) → is_out (stage w (share w t after) (act.Send o k)) ≡ true
  out_now w = subst (λ (h : History). is_out (stage w h (act.Send o k)) ≡ true) (sym (sent_share w))
      (given_out w (with_taken w o k (share w t events)) (act.Send o k) (is_act (act.Send o k) (act.Send o k))
      (both_true (is_op o o) (k == k) (same_number (op_number o)) (same_number k)))

  pub unended_now : (w : Work) → slice_get s.works t ≡ Some w → is_some (outcome_of w (share w t after)) ≡ false
  unended_now w there = goes_on_while_out w (share w t after) (act.Send o k) (given.pieces t w there)
      (shares_are_histories s after t w there given.run) (out_now w)

  going_now : (w : Work) → slice_get s.works t ≡ Some w → is_going w t after ≡ is_going w t events
  going_now w there = still_goes (nat_lt t (made_count events)) (lacks_memory t events)
      (outcome_of w (share w t events)) (outcome_of w (share w t after)) (unended_now w there)
      (ended_on w t events (Sent t o k lane))

  -- its share was taken
  taken_step : (task : Task) (w : Work) (h : History) (j new : SeenSteps) → HasSlot w o k → IsTakenFor o k j new
      → (going : Bool) → HoldsStep going task w h (Some j)
      → HoldsStep going task w (Gave (act.Send o k) ∷ with_taken w o k h) (Some new)
  taken_step task w h j new inside is true holds = giving_takes_share task w (with_taken w o k h) j new o k inside
      (by (is_some (kept_job w h (act.Send o k)))) is
    where
      by : (b : Bool) → HoldsShares task w (if b then Taken o k ∷ h else h) j
      by true = shares_stay task w h (Taken o k) j holds
      by false = holds
  taken_step task w h j new inside is false holds = absurd (nothing (sym holds))

  module _ (steps : List (Option SeenSteps)) (hold : HoldSteps s events tasks steps) where
    -- the places of other tasks
    apart_holds : (n : ℕ) (task : Task) (w : Work) → slice_get tasks n ≡ Some task → slice_get s.works n ≡ Some w
        → (t == n) ≡ false → HoldsStep (is_going w n after) task w (share w n after) (get_or steps n None)
    apart_holds n task w in_plan there apart =
        let same = stays_apart n w events t (Sent t o k lane) refl apart in
        subst (λ (b : Bool). HoldsStep b task w (share w n after) (get_or steps n None)) (sym same.0)
        (subst (λ (h : History). HoldsStep (is_going w n events) task w h (get_or steps n None)) (sym same.1)
        (hold.each n task w in_plan there))

    -- the place of its task, where the job is kept of a first giving
    again_holds : (task : Task) (w : Work) → slice_get tasks t ≡ Some task → slice_get s.works t ≡ Some w
        → HoldsStep (is_going w t after) task w (share w t after) (get_or steps t None)
    again_holds task w in_plan there = subst
        (λ (b : Bool). HoldsStep b task w (share w t after) (get_or steps t None)) (sym (going_now w there))
        (step_grown task w t events (Sent t o k lane) (get_or steps t None) (is_going w t events)
        (hold.each t task w in_plan there))

    again_by : (n : ℕ) (task : Task) (w : Work) → slice_get tasks n ≡ Some task → slice_get s.works n ≡ Some w
        → (b : Bool) → (t == n) ≡ b → HoldsStep (is_going w n after) task w (share w n after) (get_or steps n None)
    again_by n task w in_plan there true e =
        let here : t ≡ n = eqb-true t n e in
        subst (λ (i : ℕ). HoldsStep (is_going w i after) task w (share w i after) (get_or steps i None)) here
        (again_holds task w (subst (λ (i : ℕ). slice_get tasks i ≡ Some task) (sym here) in_plan)
        (subst (λ (i : ℕ). slice_get s.works i ≡ Some w) (sym here) there))
    again_by n task w in_plan there false e = apart_holds n task w in_plan there e

    pub gave_again : HoldSteps s after tasks steps
    gave_again = record {
      count = hold.count;
      each = λ n task w in_plan there. again_by n task w in_plan there (t == n) refl;
    }

    -- and where it was formed
    module _ (now : List (Option SeenSteps)) (at_one : IsAtOne t steps now) (taken : IsTakenAt s t o k steps now) where
      first_holds : (task : Task) (w : Work) → slice_get tasks t ≡ Some task → slice_get s.works t ≡ Some w
          → HoldsStep (is_going w t after) task w (share w t after) (get_or now t None)
      first_holds task w in_plan there =
          subst (λ (x : Option SeenSteps). HoldsStep (is_going w t after) task w (share w t after) x) (sym taken.is)
          (subst (λ (b : Bool). HoldsStep b task w (share w t after) (Some taken.left)) (sym (going_now w there))
          (subst (λ (h : History). HoldsStep (is_going w t events) task w h (Some taken.left)) (sym (sent_share w))
          (taken_step task w (share w t events) taken.jobs taken.left (taken.slot w there) taken.taken
          (is_going w t events)
          (subst (λ (x : Option SeenSteps). HoldsStep (is_going w t events) task w (share w t events) x) taken.was
          (hold.each t task w in_plan there)))))

      first_by : (n : ℕ) (task : Task) (w : Work) → slice_get tasks n ≡ Some task → slice_get s.works n ≡ Some w
          → (b : Bool) → (t == n) ≡ b → HoldsStep (is_going w n after) task w (share w n after) (get_or now n None)
      first_by n task w in_plan there true e =
          let here : t ≡ n = eqb-true t n e in
          subst (λ (i : ℕ). HoldsStep (is_going w i after) task w (share w i after) (get_or now i None)) here
          (first_holds task w (subst (λ (i : ℕ). slice_get tasks i ≡ Some task) (sym here) in_plan)
          (subst (λ (i : ℕ). slice_get s.works i ≡ Some w) (sym here) there))
      first_by n task w in_plan there false e = subst
          (λ (x : Option SeenSteps). HoldsStep (is_going w n after) task w (share w n after) x)
          (sym (at_one.others n e)) (apart_holds n task w in_plan there e)

      pub gave_first : HoldSteps s after tasks now
      gave_first = record {
        count = at_one.count ∙ hold.count;
        each = λ n task w in_plan there. first_by n task w in_plan there (t == n) refl;
      }

-- ---- the laws

pub given_first : GivenFirst
given_first s events t o k lane tasks steps now given hold at_one taken =
    gave_first s events t o k lane tasks given steps hold now at_one taken

pub given_again : GivenAgain
given_again s events t o k lane tasks steps given hold = gave_again s events t o k lane tasks given steps hold
