-- Two histories of a task of which the same is told.
use Rattle.std.proofs.Common.{◌≡◌, ◌∙◌, ◌||◌, ◌∷◌, ℕ, Bool, true, false, IsSome, Option, Some, None, refl, sym, ap, is_some}
use Rattle.std.proofs.Common.{if◌then◌else◌}
use Rattle.std.specs.Option.{option_or}
use Rattle.s3_model.specs.declared.outcomes.Cause.{Cause}
use Rattle.s3_model.specs.declared.outcomes.Reason.{Reason}
use Rattle.s3_model.specs.declared.requests.Op.{Op}
use Rattle.task_acts.specs.declared.acts.Act.TheVariants as act
use Rattle.task_acts.specs.declared.work.Work.{Work}
use Rattle.task_acts.specs.Ends.{outcome_of}
use Rattle.task_acts.specs.Failures.{failure_by, first_failure, first_reason, is_stopped, reason_by}
use Rattle.task_acts.specs.Histories.{Came, Cancelled, Gave, Happening, History, Returned, Taken}
use Rattle.task_acts.specs.Kept.{etags_of, kept_job, upload_of}
use Rattle.task_acts.specs.Rule.{first_ready, first_ready_in, is_idle, is_idle_in}
use Rattle.task_acts.specs.Stages.{stage}
use Rattle.alike_histories.proofs.Told.{by_acts, etags, failure, outcome, reason, stages, stopped, upload}
use Rattle.alike_histories.specs.Alike.{AlikeSaysTheSame, CancelStaysAlike, GivingStaysAlike, SayTheSame, StartsAlike, StaysAlike}
use Rattle.alike_histories.specs.Alike.{TakingStaysAlike, given_in, told, told_cancel}

no : {P : Type 0} → false ≡ true → P
no e = cc

module _ (w : Work) (g h : History) (same : told g ≡ told h) where
  -- what is said of a history but for the jobs that were taken is said of both
  said : {X : Type 0} (says : History → X) → ((x : History) → says x ≡ says (told x)) → says g ≡ says h
  said says e = e g ∙ ap says same ∙ sym (e h)

  says_the_same : SayTheSame w g h
  says_the_same = record {
    stages = λ a. said (λ (x : History). stage w x a) (λ x. stages w x a);
    stopped = said (λ (x : History). is_stopped w x) (stopped w);
    failure = said (λ (x : History). first_failure w x) (failure w);
    ready = said (λ (x : History). first_ready_in w x) (by_acts w (first_ready w));
    idle = said (λ (x : History). is_idle_in w x) (by_acts w (is_idle w));
    outcome = said (λ (x : History). outcome_of w x) (outcome w);
    upload = said (λ (x : History). upload_of x) (upload w);
    etags = said (λ (x : History). etags_of w x) (etags w);
  }

pub alike_says_the_same : AlikeSaysTheSame
alike_says_the_same w g h same = says_the_same w g h same

pub starts_alike : StartsAlike
starts_alike w h = record { told_are = refl; same = λ e. refl }

-- ---- a task that has not stopped had not stopped before

before_by : (a b : Option Cause) (c d : Option Reason) → (is_some (option_or a b) || is_some (option_or c d)) ≡ false
    → (is_some a || is_some c) ≡ false
before_by None b None d e = refl
before_by None None (Some r) d e = no (sym e)
before_by None (Some f) (Some r) d e = no (sym e)
before_by (Some f) b c d e = no (sym e)

went_on : (w : Work) (event : Happening) (h : History) → is_stopped w (event ∷ h) ≡ false → is_stopped w h ≡ false
went_on w event h e = before_by (first_failure w h) (failure_by w event) (first_reason h) (reason_by event) e

told_with : (w : Work) (event : Happening) (g h : History) → told g ≡ told h → told (event ∷ g) ≡ told (event ∷ h)
told_with w (Gave a) g h e = ap (λ (x : History). Gave a ∷ x) e
told_with w (Came c) g h e = ap (λ (x : History). Came c ∷ x) e
told_with w (Returned a r) g h e = ap (λ (x : History). Returned a r ∷ x) e
told_with w (Taken o n) g h e = e
told_with w (Cancelled r) g h e =
    ap (λ (x : Option Reason). told_cancel (is_some x) r (told g))
    (reason w g ∙ ap (λ (x : History). first_reason x) e ∙ sym (reason w h))
    ∙ ap (λ (x : History). told_cancel (is_some (first_reason h)) r x) e

pub stays_alike : StaysAlike
stays_alike w g h event are = record {
  told_are = told_with w event g h are.told_are;
  same = λ e. ap (λ (x : History). event ∷ x) (are.same (went_on w event h e));
}

-- ---- jobs that are taken

taken_if : (b : Bool) (o : Op) (n : ℕ) (h : History) → told (if b then Taken o n ∷ h else h) ≡ told h
taken_if true o n h = refl
taken_if false o n h = refl

abbrev was_kept : Work → Op → ℕ → History → Bool
was_kept w o n h = is_some (kept_job w h (act.Send o n))

went_on_taken : (w : Work) (b : Bool) (o : Op) (n : ℕ) (h : History)
    → is_stopped w (if b then Taken o n ∷ h else h) ≡ false → is_stopped w h ≡ false
went_on_taken w true o n h e = went_on w (Taken o n) h e
went_on_taken w false o n h e = e

pub giving_stays_alike : GivingStaysAlike
giving_stays_alike w g h o n are = record {
  told_are = ap (λ (x : History). Gave (act.Send o n) ∷ x)
      (taken_if (was_kept w o n g) o n g ∙ are.told_are ∙ sym (taken_if (was_kept w o n h) o n h));
  same = λ e. ap (λ (x : History). given_in w o n x)
      (are.same (went_on_taken w (was_kept w o n h) o n h
      (went_on w (Gave (act.Send o n)) (if was_kept w o n h then Taken o n ∷ h else h) e)));
}

pub taking_stays_alike : TakingStaysAlike
taking_stays_alike w g h o n stops are = record {
  told_are = are.told_are;
  same = λ e. no (sym e ∙ stops);
}

-- ---- a second cancel

cancel_stops : (a : Option Cause) (b : Option Reason) (r : Reason) → IsSome b
    → (is_some (option_or a None) || is_some (option_or b (Some r))) ≡ true
cancel_stops (Some why) b r there = refl
cancel_stops None (Some q) r there = refl
cancel_stops None None r there = no there

told_twice : (came : Option Reason) (r : Reason) (h : History) → IsSome came → told_cancel (is_some came) r h ≡ h
told_twice (Some q) r h there = refl
told_twice None r h there = no there

pub cancel_stays_alike : CancelStaysAlike
cancel_stays_alike w g h r there are = record {
  told_are = are.told_are ∙ sym (told_twice (first_reason h) r (told h) there);
  same = λ e. no (sym e ∙ cancel_stops (first_failure w h) (first_reason h) r there);
}
