-- A job in a lane is out, and stands there once.
use Rattle.std.proofs.Common.{◌≡◌, ◌∙◌, ◌==◌, ◌≤◌, ◌++◌, ◌⊎◌, ℕ, zero, suc, Bool, true, false, List, [], ◌∷◌}
use Rattle.std.proofs.Common.{Some, refl, sym, subst, ap, arith, inl, inr, drop, length, slice_get, if◌then◌else◌}
use Rattle.std.proofs.lemmas.Bool.{eqb-true}
use Rattle.jobs.specs.Endings.{SeenCarried}
use Rattle.manager_moves.proofs.CountLemmas.{no}
use Rattle.manager_moves.proofs.HoldLemmas.{same_number}
use Rattle.manager_moves.proofs.MoveLaws.{in_front}
use Rattle.manager_moves.proofs.PartLaws.{nothing, same_value}
use Rattle.manager_moves.proofs.ShareLaws.{is_next}
use Rattle.manager_moves.proofs.ShareLaws as shares
use Rattle.manager_moves.specs.Lanes.{jobs_in}
use Rattle.manager_moves.specs.Laws.{IsRun}
use Rattle.manager_moves.specs.Runs.{Back, Called, Event, Events, Lined, Made, Sent, Shared, Stopped, made_count, share}
use Rattle.manager_moves.specs.Runs.{with_taken}
use Rattle.run_progress.proofs.Waiting.{within_take}
use Rattle.job_terms.specs.Jobs.{job_of}
use Rattle.s3_model.specs.declared.outcomes.JobId.{JobId}
use Rattle.s3_model.specs.declared.requests.Op.{Op}
use Rattle.task_acts.specs.declared.acts.Act.TheVariants as act
use Rattle.task_acts.specs.declared.acts.Stage.{Stage}
use Rattle.task_acts.specs.declared.work.Work.{Work}
use Rattle.task_acts.specs.Histories.{Gave, History, is_act}
use Rattle.task_acts.specs.Stages.{given_stage, is_out, may_be_given, stage}
use Rattle.task_progress.proofs.Endings.{chosen}
use Rattle.lane_givings.proofs.Staying.{act_itself, given_is_out, IsNotBack, next_may_be_given, not_both, stays}
use Rattle.lane_givings.specs.Givings.{IsOut}
use Rattle.lane_givings.specs.Laws.{JobsInLanesAreOut, JobsStandOnce}

-- ---- places in a lane

abbrev pub IsAt : Events → (lane place : ℕ) → JobId → Type 0
IsAt events lane place id = slice_get (jobs_in lane events) place ≡ Some id

pub joined : {X : Type 0} (xs : List X) (new : X) (place : ℕ) (x : X) → slice_get (xs ++ new ∷ []) place ≡ Some x
    → (slice_get xs place ≡ Some x) ⊎ ((place ≡ length xs) × (new ≡ x))
joined [] new zero x e = inr (refl, same_value e)
joined [] new (suc place) x e = absurd (nothing e)
joined (y ∷ xs) new zero x e = inl e
joined (y ∷ xs) new (suc place) x e = elim (joined xs new place x e) [
  | inl old ↦ inl old
  | inr is ↦ inr (let behind = is.0 in omega arith, is.1)
]

pub dropped : {X : Type 0} (xs : List X) (place : ℕ) (x : X) → slice_get (drop 1 xs) place ≡ Some x
    → slice_get xs (suc place) ≡ Some x
dropped [] place x e = absurd (nothing e)
dropped (y ∷ xs) place x e = e

-- the place before the oldest of its lane came back
abbrev pub moved_up : (own : Bool) → ℕ → ℕ
moved_up true place = suc place
moved_up false place = place

module _ (t : ℕ) (o : Op) (k to : ℕ) (before : Events) where
  abbrev IsNew : (lane place : ℕ) → JobId → Type 0
  IsNew lane place id = (to ≡ lane) × (place ≡ length (jobs_in lane before)) × (job_of t o k ≡ id)

  sent_at : (lane place : ℕ) (id : JobId) → IsAt (Sent t o k to ∷ before) lane place id
      → IsAt before lane place id ⊎ IsNew lane place id
  sent_at lane place id e = by (to == lane) refl e
    where
      by : (b : Bool) → (to == lane) ≡ b
          → slice_get (if b then jobs_in lane before ++ job_of t o k ∷ [] else jobs_in lane before) place ≡ Some id
          → IsAt before lane place id ⊎ IsNew lane place id
      by true own f = elim (joined (jobs_in lane before) (job_of t o k) place id f) [
        | inl old ↦ inl old
        | inr is ↦ inr (eqb-true to lane own, is.0, is.1)
      ]
      by false own f = inl f

module _ (from : ℕ) (c : SeenCarried) (before : Events) where
  pub back_at : (lane place : ℕ) (id : JobId) → IsAt (Back from c ∷ before) lane place id
      → IsAt before lane (moved_up (from == lane) place) id
  back_at lane place id e = by (from == lane) e
    where
      by : (b : Bool) → slice_get (if b then drop 1 (jobs_in lane before) else jobs_in lane before) place ≡ Some id
          → IsAt before lane (moved_up b place) id
      by true f = dropped (jobs_in lane before) place id f
      by false f = f

-- ---- each event

abbrev AreOut : Shared → Events → Type 0
AreOut s events = (lane place : ℕ) (id : JobId) → IsAt events lane place id → IsOut s events id

abbrev StandOnce : Events → Type 0
StandOnce events = (lane other place elsewhere : ℕ) (id : JobId) → IsAt events lane place id
    → IsAt events other elsewhere id → (lane ≡ other) × (place ≡ elsewhere)

more_made : (e : Event) (before : Events) → made_count before ≤ made_count (e ∷ before)
more_made (Made fits) before = omega arith
more_made Lined before = omega arith
more_made (Stopped reason) before = omega arith
more_made (Called t a r) before = omega arith
more_made (Sent t o k to) before = omega arith
more_made (Back from c) before = omega arith

module _ (s : Shared) (before : Events) where
  pub still_out : (e : Event) (id : JobId) → IsRun s (e ∷ before) → IsNotBack e id → IsOut s before id
      → IsOut s (e ∷ before) id
  still_out e id run apart is = record {
    task = is.task;
    is_task = is.is_task;
    work = is.work;
    there = is.there;
    made = let few = is.made in let more = more_made e before in omega arith;
    out = subst (λ (how : Stage). is_out how ≡ true)
        (sym (stays s before is.task is.work is.there id is.is_task is.out e run apart).stage_is) is.out;
  }

  new_out : (t : ℕ) (o : Op) (k to : ℕ) → IsRun s (Sent t o k to ∷ before)
      → IsOut s (Sent t o k to ∷ before) (job_of t o k)
  new_out t o k to run =
      let g = is_next s before t (act.Send o k) (ap shares.act_of run.0) in
      let w : Work = g.0 in
      let h : History = share w t before in
      record {
        task = t;
        is_task = refl;
        work = w;
        there = in_front (made_count before) s.works t w g.1;
        made = within_take (made_count before) s.works t w g.1;
        out =
            subst (λ (x : History). is_out (stage w x (act.Send o k)) ≡ true)
            (sym (chosen (t == t) (Gave (act.Send o k) ∷ with_taken w o k h) h (same_number t)))
            (subst (λ (how : Stage). is_out how ≡ true)
            (sym (chosen (is_act (act.Send o k) (act.Send o k))
            (given_stage (stage w (with_taken w o k h) (act.Send o k)))
            (stage w (with_taken w o k h) (act.Send o k)) (act_itself o k)))
            (given_is_out (stage w (with_taken w o k h) (act.Send o k))));
      }

  -- ---- a job is given

  module _ (t : ℕ) (o : Op) (k to : ℕ) (run : IsRun s (Sent t o k to ∷ before)) (outs : AreOut s before)
      (once : StandOnce before) where
    sent_outs : AreOut s (Sent t o k to ∷ before)
    sent_outs lane place id e = elim (sent_at t o k to before lane place id e) [
      | inl old ↦ still_out (Sent t o k to) id run tt (outs lane place id old)
      | inr new ↦ subst (λ (x : JobId). IsOut s (Sent t o k to ∷ before) x) new.2 (new_out t o k to run)
    ]

    -- it was not out before
    is_new : (lane place : ℕ) → IsAt before lane place (job_of t o k) → ⊥
    is_new lane place e = not_given (outs lane place (job_of t o k) e)
      where
        not_given : IsOut s before (job_of t o k) → ⊥
        not_given is =
            let task_is : is.task ≡ t = sym (same_value is.is_task) in
            not_both (stage is.work (share is.work is.task before) (act.Send o k))
            (subst (λ (i : ℕ). may_be_given (stage is.work (share is.work i before) (act.Send o k)) ≡ true)
            (sym task_is)
            (next_may_be_given s before t o k to is.work run (ap (slice_get s.works) (sym task_is) ∙ is.there))) is.out

    sent_once : StandOnce (Sent t o k to ∷ before)
    sent_once lane other place elsewhere id e f = elim (sent_at t o k to before lane place id e) [
      | inl old ↦ elim (sent_at t o k to before other elsewhere id f) [
        | inl its ↦ once lane other place elsewhere id old its
        | inr new ↦ absurd (is_new lane place (old ∙ ap (λ (x : JobId). Some x) (sym new.2)))
      ]
      | inr new ↦ elim (sent_at t o k to before other elsewhere id f) [
        | inl its ↦ absurd (is_new other elsewhere (its ∙ ap (λ (x : JobId). Some x) (sym new.2)))
        | inr too ↦ (
          sym new.0 ∙ too.0,
          new.1 ∙ ap (λ (l : ℕ). length (jobs_in l before)) (sym new.0 ∙ too.0) ∙ sym too.1,
        )
      ]
    ]

  -- ---- a job comes back

  module _ (from : ℕ) (c : SeenCarried) (run : IsRun s (Back from c ∷ before)) (once : StandOnce before) where
    -- another job stands in that place
    pub is_other : (lane place : ℕ) (id : JobId) → IsAt (Back from c ∷ before) lane place id → c.job.id ≡ id → ⊥
    is_other lane place id e same =
        by (from == lane) refl (once from lane 0 (moved_up (from == lane) place) id
        (run.0.0 ∙ ap (λ (x : JobId). Some x) same) (back_at from c before lane place id e))
      where
        by : (b : Bool) → (from == lane) ≡ b → (from ≡ lane) × (0 ≡ moved_up b place) → ⊥
        by true own is = let never = is.1 in omega arith
        by false own is = no (sym own ∙ ap (λ (l : ℕ). from == l) (sym is.0) ∙ same_number from)

    back_outs : AreOut s before → AreOut s (Back from c ∷ before)
    back_outs outs lane place id e = still_out (Back from c) id run (is_other lane place id e)
        (outs lane (moved_up (from == lane) place) id (back_at from c before lane place id e))

    back_once : StandOnce (Back from c ∷ before)
    back_once lane other place elsewhere id e f =
        let is = once lane other (moved_up (from == lane) place) (moved_up (from == other) elsewhere) id
        (back_at from c before lane place id e) (back_at from c before other elsewhere id f) in
        (is.0, by (from == lane) (from == other) (ap (λ (l : ℕ). from == l) is.0) is.1)
      where
        by : (p q : Bool) → p ≡ q → moved_up p place ≡ moved_up q elsewhere → place ≡ elsewhere
        by true true e f = omega arith
        by false false e f = f
        by true false e f = no (sym e)
        by false true e f = no e

module _ (s : Shared) where
  both : (events : Events) → IsRun s events → AreOut s events × StandOnce events
  both [] run = (λ lane place id e. absurd (nothing e), λ lane other place elsewhere id e f. absurd (nothing e))
  both (Made fits ∷ before) run =
      let b = both before run.1 in
      (λ lane place id e. still_out s before (Made fits) id run tt (b.0 lane place id e), b.1)
  both (Lined ∷ before) run =
      let b = both before run.1 in
      (λ lane place id e. still_out s before Lined id run tt (b.0 lane place id e), b.1)
  both (Stopped reason ∷ before) run =
      let b = both before run.1 in
      (λ lane place id e. still_out s before (Stopped reason) id run tt (b.0 lane place id e), b.1)
  both (Called t a r ∷ before) run =
      let b = both before run.1 in
      (λ lane place id e. still_out s before (Called t a r) id run tt (b.0 lane place id e), b.1)
  both (Sent t o k to ∷ before) run =
      let b = both before run.1 in
      (sent_outs s before t o k to run b.0 b.1, sent_once s before t o k to run b.0 b.1)
  both (Back from c ∷ before) run =
      let b = both before run.1 in
      (back_outs s before from c run b.1 b.0, back_once s before from c run b.1)

pub jobs_in_lanes_are_out : JobsInLanesAreOut
jobs_in_lanes_are_out s events lane place id run e = (both s events run).0 lane place id e

pub jobs_stand_once : JobsStandOnce
jobs_stand_once s events lane other place elsewhere id run e f =
    (both s events run).1 lane other place elsewhere id e f
