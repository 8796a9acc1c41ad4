-- What is given after the run was cancelled.
use Rattle.std.proofs.Common.{◌≡◌, ◌∙◌, ◌++◌, ◌≤◌, ℕ, true, List, [], ◌∷◌, Some, Contains, sym, ap, inl, inr, arith}
use Rattle.job_terms.specs.Dispatches.{Dispatched}
use Rattle.run_promise.specs.Schedule.{Setting}
use Rattle.s3_model.specs.Talks.{Talk}
use Rattle.s3_model.specs.declared.answers.Class.{Class}
use Rattle.s3_model.specs.declared.outcomes.Reason.{Reason}
use Rattle.s3_model.specs.declared.requests.Ask.{Ask}
use Rattle.s3_model.specs.declared.requests.Op.{Op}
use Rattle.s3_model.specs.declared.requests.Op.TheVariants as op
use Rattle.task_acts.specs.declared.work.Work.{Work}
use Rattle.task_acts.specs.Failures.{is_stopped}
use Rattle.task_acts.specs.Histories.{History}
use Rattle.shared_lemmas.proofs.Lists.{tail_is}
use Rattle.manager_moves.specs.Runs.{Events, Sent, Shared, Stopped, share}
use Rattle.task_schedule.specs.Journals.{IsRunOf, place_after}
use Rattle.task_schedule.proofs.EventStops.{ahead_goes_on, cancel_stops}
use Rattle.task_schedule.proofs.Joined.{has_work, its_id}
use Rattle.task_schedule.proofs.Places.{ends, entry_fills, filled, fills}
use Rattle.task_schedule.proofs.SentJobs.{at_of, stopped_sends}
use Rattle.task_schedule.proofs.Shares.{since, since_is}
use Rattle.task_schedule.proofs.Standing.{stays_stopped}

-- a job that was sent at the place of the cancel or later was sent after it
module _ (n k lane : ℕ) (o : Op) (reason : Reason) (later before us vs : Events)
    (is : later ++ Stopped reason ∷ before ≡ us ++ Sent n o k lane ∷ vs) (late : filled before ≤ filled vs) where
  no_sent : (xs ys : Events) → Stopped reason ∷ xs ≡ Sent n o k lane ∷ ys → ⊥
  no_sent xs ys e = cc

  first : (r : Events) → Stopped reason ∷ before ≡ r ++ Sent n o k lane ∷ vs
      → (r : Events) × (vs ≡ r ++ Stopped reason ∷ before)
  first [] e = absurd (no_sent before vs e)
  first (z ∷ r) e =
      let same = ap filled (tail_is (Stopped reason) z before (r ++ Sent n o k lane ∷ vs) e) in
      let more = fills r (Sent n o k lane ∷ vs) in
      let one = entry_fills (Sent n o k lane) vs tt in
      absurd (omega arith)

  second : (r : Events) → Sent n o k lane ∷ vs ≡ r ++ Stopped reason ∷ before
      → (r : Events) × (vs ≡ r ++ Stopped reason ∷ before)
  second [] e = absurd (no_sent before vs (sym e))
  second (z ∷ r) e = (r, tail_is (Sent n o k lane) z vs (r ++ Stopped reason ∷ before) e)

  pub sent_after : (r : Events) × (vs ≡ r ++ Stopped reason ∷ before)
  sent_after = elim (ends later (Stopped reason ∷ before) us (Sent n o k lane ∷ vs) is) [
    | inl e ↦ first e.0 e.1
    | inr e ↦ second e.0 e.1
  ]

-- its task is stopped by then
stopped_after : (w : Work) (n : ℕ) (reason : Reason) (r before vs : Events) → vs ≡ r ++ Stopped reason ∷ before
    → is_stopped w (share w n vs) ≡ true
stopped_after w n reason r before vs is =
    ap (λ (z : Events). is_stopped w (share w n z)) is
    ∙ ap (λ (h : History). is_stopped w h) (since_is w n r (Stopped reason ∷ before))
    ∙ stays_stopped w (since w n r (Stopped reason ∷ before)) (share w n (Stopped reason ∷ before))
    (cancel_stops w reason (share w n before))

module _ (Shows : Ask → ℕ → Talk → Class → List ℕ → Type 0) (s : Shared) (setting : Setting) (planned : ℕ)
    (events : Events) (dispatched coming : List Dispatched)
    (r : IsRunOf Shows s setting planned events dispatched coming) where
  pub after_cancel : (c : Dispatched) (n place : ℕ) → Contains dispatched c → c.dispatch.job.task ≡ Some n
      → setting.cancelled_at ≡ Some place → place ≤ c.dispatch.given_at → c.dispatch.job.op ≡ op.Abort
  after_cancel c n place known task cancelled late =
      let o = c.dispatch.job.op in
      let k = c.dispatch.job.number in
      let its = has_work Shows s setting planned events dispatched coming r c n known task in
      let job = its_id Shows s setting planned events dispatched coming r c n task in
      let b = at_of Shows s setting planned events dispatched coming r n its.w its.of_plan o k c known job in
      let found = r.cancelled_at place cancelled in
      let after = sent_after n k b.lane o found.1.reason found.1.later found.0 b.later b.before
      (sym found.1.is ∙ b.is) (by found.0 b.before found.2 b.given_at) in
      stopped_sends Shows s setting planned events dispatched coming r n its.w its.of_plan o k c b
      (ahead_goes_on its.w o k (share its.w n b.before)
      ∙ stopped_after its.w n found.1.reason after.0 found.0 b.before after.1)
    where
      by : (xs ys : Events) → place ≡ place_after planned xs → c.dispatch.given_at ≡ place_after planned ys
          → filled xs ≤ filled ys
      by xs ys e f = omega arith
