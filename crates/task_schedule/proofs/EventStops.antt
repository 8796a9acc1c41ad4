-- Which event of a run stopped a task.
use Rattle.std.proofs.Common.{◌≡◌, ◌∙◌, ◌==◌, ◌||◌, ◌⊎◌, ◌++◌, ℕ, Bool, true, false, [], ◌∷◌, Option, Some, None, refl, sym, subst, ap, inl, inr, not}
use Rattle.std.specs.Option.{option_or}
use Rattle.std.specs.Prelude.{if◌then◌else◌, is_some}
use Rattle.jobs.specs.Endings.{SeenCarried}
use Rattle.s3_model.specs.declared.outcomes.Cause.{Cause}
use Rattle.s3_model.specs.declared.outcomes.Reason.{Reason}
use Rattle.s3_model.specs.declared.requests.Op.{Op}
use Rattle.task_acts.specs.declared.acts.Act.{Act}
use Rattle.task_acts.specs.declared.acts.Act.TheVariants as act
use Rattle.task_acts.specs.declared.acts.FileCame.{FileCame}
use Rattle.task_acts.specs.declared.work.Work.{Work}
use Rattle.task_acts.specs.Failures.{carried_cause, failure_by, file_cause, first_failure, first_reason, is_cut_short, is_memory, is_stopped, reason_by}
use Rattle.task_acts.specs.Histories.{Came, Cancelled, Gave, Happening, History, Returned, Taken}
use Rattle.task_acts.specs.Kept.{kept_job}
use Rattle.task_progress.proofs.Endings.{chosen, no, skipped}
use Rattle.task_progress.proofs.Progress.{both, opposite}
use Rattle.manager_moves.specs.Runs.{Back, Called, Event, Events, Lined, Made, Sent, Stopped, is_task, share, with_taken}
use Rattle.task_schedule.specs.Journals.{fails_otherwise}
use Rattle.task_schedule.proofs.Stopping.{otherwise_now, stopped_by}

pub or_none : {X : Type 0} (x : Option X) → option_or x None ≡ x
or_none None = refl
or_none (Some x) = refl

module _ (w : Work) where
  -- what is neither a failure nor a cancel stops nothing
  pub stops_not : (e : Happening) (h : History) → failure_by w e ≡ None → reason_by e ≡ None → is_stopped w (e ∷ h) ≡ is_stopped w h
  stops_not e h failure reason =
      ap (λ (x : Option Cause). is_some (option_or (first_failure w h) x) || is_some (option_or (first_reason h) (reason_by e))) failure
      ∙ ap (λ (x : Option Reason). is_some (option_or (first_failure w h) None) || is_some (option_or (first_reason h) x)) reason
      ∙ ap (λ (x : Option Cause). is_some x || is_some (option_or (first_reason h) None)) (or_none (first_failure w h))
      ∙ ap (λ (x : Option Reason). is_some (first_failure w h) || is_some x) (or_none (first_reason h))

  pub cancel_stops : (reason : Reason) (h : History) → is_stopped w (Cancelled reason ∷ h) ≡ true
  cancel_stops reason h = second (is_some (option_or (first_failure w h) None)) (is_some (option_or (first_reason h) (Some reason))) (some (first_reason h))
    where
      some : (x : Option Reason) → is_some (option_or x (Some reason)) ≡ true
      some None = refl
      some (Some y) = refl

      second : (a b : Bool) → b ≡ true → (a || b) ≡ true
      second true b e = refl
      second false b e = e

  -- a job that was cut short stops nothing
  pub cut_goes_on : (c : SeenCarried) (h : History) → is_cut_short w c ≡ true → is_stopped w (Came c ∷ h) ≡ is_stopped w h
  cut_goes_on c h cut = stops_not (Came c) h (chosen (is_cut_short w c) None (carried_cause w c) cut) refl

  taken_goes_on : (o : Op) (k : ℕ) (h : History) → is_stopped w (with_taken w o k h) ≡ is_stopped w h
  taken_goes_on o k h = by (is_some (kept_job w h (act.Send o k)))
    where
      by : (b : Bool) → is_stopped w (if b then Taken o k ∷ h else h) ≡ is_stopped w h
      by true = stops_not (Taken o k) h refl refl
      by false = refl

  pub ahead_goes_on : (o : Op) (k : ℕ) (h : History) → is_stopped w (with_taken w o k h) ≡ is_stopped w h
  ahead_goes_on o k h = taken_goes_on o k h

  -- a failure by a job, that is not for want of memory
  pub record IsFailure (c : SeenCarried) : Type 0 where
    pub not_cut : is_cut_short w c ≡ false
    pub has_cause : is_some (carried_cause w c) ≡ true
    pub not_memory : is_memory (carried_cause w c) ≡ false

  module _ (n : ℕ) where
    -- a call on files that failed, or a job for which memory ran out
    abbrev pub IsCall : Event → Events → Type 0
    IsCall e before = (a : Act) × (r : FileCame) × (share w n (e ∷ before) ≡ Returned a r ∷ Gave a ∷ share w n before) × (is_some (file_cause a r) ≡ true)

    abbrev pub IsForgotten : Event → Events → Type 0
    IsForgotten e before = (c : SeenCarried) × (share w n (e ∷ before) ≡ Came c ∷ share w n before) × (is_cut_short w c ≡ false) × (is_memory (carried_cause w c) ≡ true)

    pub record IsOther (e : Event) (before : Events) : Type 0 where
      pub fails : fails_otherwise w (share w n (e ∷ before)) ≡ true
      pub what : IsCall e before ⊎ IsForgotten e before

    abbrev pub Stopper : Event → Events → Type 0
    Stopper e before = ((reason : Reason) × (e ≡ Stopped reason)) ⊎ IsOther e before
        ⊎ ((lane : ℕ) × (c : SeenCarried) × (e ≡ Back lane c) × (is_task n c.job.id.task ≡ true) × IsFailure c)

    abbrev Forgets : SeenCarried → History → Type 0
    Forgets c h = (fails_otherwise w (Came c ∷ h) ≡ true) × (is_cut_short w c ≡ false) × (is_memory (carried_cause w c) ≡ true)

    failed_job : (c : SeenCarried) (h : History) → is_stopped w h ≡ false → is_stopped w (Came c ∷ h) ≡ true → Forgets c h ⊎ IsFailure c
    failed_job c h going stopped = by (is_cut_short w c) refl (is_memory (carried_cause w c)) refl (stopped_by w (Came c) h going stopped)
      where
        by : (cut : Bool) → is_cut_short w c ≡ cut → (memory : Bool) → is_memory (carried_cause w c) ≡ memory
            → (is_some (if is_cut_short w c then None else carried_cause w c) ≡ true) ⊎ (is_some (reason_by (Came c)) ≡ true) → Forgets c h ⊎ IsFailure c
        by true cut memory m why = no (sym going ∙ sym (cut_goes_on c h cut) ∙ stopped)
        by false cut true m why = inl (otherwise_now w (Came c) h going (both (not (is_cut_short w c)) (is_memory (carried_cause w c)) (opposite (is_cut_short w c) cut) m), cut, m)
        by false cut false m (inl why) = inr (record {
          not_cut = cut;
          has_cause = ap (λ (x : Option Cause). is_some x) (sym (skipped (is_cut_short w c) None (carried_cause w c) cut)) ∙ why;
          not_memory = m;
        })
        by false cut false m (inr why) = no why

    failed_call : (a : Act) (r : FileCame) (h : History) → is_stopped w h ≡ false → is_stopped w (Returned a r ∷ Gave a ∷ h) ≡ true → (fails_otherwise w (Returned a r ∷ Gave a ∷ h) ≡ true) × (is_some (file_cause a r) ≡ true)
    failed_call a r h going stopped =
        let still = stops_not (Gave a) h refl refl ∙ going in
        elim (stopped_by w (Returned a r) (Gave a ∷ h) still stopped) [
          | inl failed ↦ (otherwise_now w (Returned a r) (Gave a ∷ h) still failed, failed)
          | inr reason ↦ no reason
        ]

    pub stopper : (e : Event) (before : Events) → is_stopped w (share w n before) ≡ false → is_stopped w (share w n (e ∷ before)) ≡ true → Stopper e before
    stopper (Stopped reason) before going stopped = inl (reason, refl)
    stopper (Back lane c) before going stopped = by (is_task n c.job.id.task) refl stopped
      where
        share_is : is_task n c.job.id.task ≡ true → share w n (Back lane c ∷ before) ≡ Came c ∷ share w n before
        share_is is = chosen (is_task n c.job.id.task) (Came c ∷ share w n before) (share w n before) is

        with_job : share w n (Back lane c ∷ before) ≡ Came c ∷ share w n before → Forgets c (share w n before) ⊎ IsFailure c → is_task n c.job.id.task ≡ true → Stopper (Back lane c) before
        with_job same (inl forgets) is = inr (inl (record {
          fails = subst (λ (h : History). fails_otherwise w h ≡ true) (sym same) forgets.0;
          what = inr (c, same, forgets.1, forgets.2);
        }))
        with_job same (inr failure) is = inr (inr (lane, c, refl, is, failure))

        by : (b : Bool) → is_task n c.job.id.task ≡ b → is_stopped w (if b then Came c ∷ share w n before else share w n before) ≡ true → Stopper (Back lane c) before
        by true is f = with_job (share_is is) (failed_job c (share w n before) going f) is
        by false is f = no (sym going ∙ f)
    stopper (Called t a r) before going stopped = by (t == n) refl stopped
      where
        by : (b : Bool) → (t == n) ≡ b → is_stopped w (if b then Returned a r ∷ Gave a ∷ share w n before else share w n before) ≡ true → Stopper (Called t a r) before
        by true is f =
            let same = chosen (t == n) (Returned a r ∷ Gave a ∷ share w n before) (share w n before) is in
            let failed = failed_call a r (share w n before) going f in
            inr (inl (record { fails = subst (λ (h : History). fails_otherwise w h ≡ true) (sym same) failed.0; what = inl (a, r, same, failed.1) }))
        by false is f = no (sym going ∙ f)
    stopper (Sent t o k lane) before going stopped = by (t == n) stopped
      where
        by : (b : Bool) → is_stopped w (if b then Gave (act.Send o k) ∷ with_taken w o k (share w n before) else share w n before) ≡ true → Stopper (Sent t o k lane) before
        by true f = no (sym going ∙ sym (taken_goes_on o k (share w n before)) ∙ sym (stops_not (Gave (act.Send o k)) (with_taken w o k (share w n before)) refl refl) ∙ f)
        by false f = no (sym going ∙ f)
    stopper (Made fits) before going stopped = no (sym going ∙ stopped)
    stopper Lined before going stopped = no (sym going ∙ stopped)

    -- the first event that stopped it
    pub record StoppedFirst (later before : Events) : Type 0 where
      pub newer : Events
      pub event : Event
      pub between : Events
      pub is : later ≡ newer ++ event ∷ between
      pub going : is_stopped w (share w n (between ++ before)) ≡ false
      pub by : Stopper event (between ++ before)

    pub stopped_first : (later before : Events) → is_stopped w (share w n before) ≡ false → is_stopped w (share w n (later ++ before)) ≡ true → StoppedFirst later before
    stopped_first [] before going stopped = no (sym going ∙ stopped)
    stopped_first (e ∷ later) before going stopped = by (is_stopped w (share w n (later ++ before))) refl (λ f. stopped_first later before going f)
      where
        by : (b : Bool) → is_stopped w (share w n (later ++ before)) ≡ b → (is_stopped w (share w n (later ++ before)) ≡ true → StoppedFirst later before) → StoppedFirst (e ∷ later) before
        by true f rest = let found = rest f in record {
          newer = e ∷ found.newer;
          event = found.event;
          between = found.between;
          is = ap (λ (z : Events). e ∷ z) found.is;
          going = found.going;
          by = found.by;
        }
        by false f rest = record { newer = []; event = e; between = later; is = refl; going = f; by = stopper e (later ++ before) f stopped }
