-- Each job of a task that was sent in a run has come back by its end.
use Rattle.std.proofs.Common.{◌≡◌, ◌∙◌, ◌++◌, ℕ, true, false, List, [], ◌∷◌, Some, sym, subst, ap, inl, inr, slice_get}
use Rattle.job_terms.specs.Dispatches.{Dispatched}
use Rattle.run_promise.specs.Schedule.{Setting}
use Rattle.s3_model.specs.Talks.{Talk}
use Rattle.s3_model.specs.declared.answers.Class.{Class}
use Rattle.s3_model.specs.declared.requests.Ask.{Ask}
use Rattle.s3_model.specs.declared.requests.Op.{Op}
use Rattle.task_acts.specs.declared.acts.Act.TheVariants as act
use Rattle.task_acts.specs.declared.acts.Stage.{Stage}
use Rattle.task_acts.specs.declared.work.Work.{Work}
use Rattle.task_acts.specs.Histories.{Gave, History}
use Rattle.task_acts.specs.Stages.{is_out, stage}
use Rattle.shared_lemmas.proofs.Clashes.{false_true}
use Rattle.shared_lemmas.proofs.Members.{Has, contains_of, has_middle}
use Rattle.task_progress.proofs.Quiet.{not_out, outcome_quiet}
use Rattle.manager_moves.specs.Runs.{Events, Sent, Shared, share, with_taken}
use Rattle.task_schedule.specs.Journals.{IsBack, IsRunOf, NoneBack}
use Rattle.task_schedule.proofs.Joined.{all_holds}
use Rattle.task_schedule.proofs.SentJobs.{IsAt, out_still, share_since}
use Rattle.task_schedule.proofs.Shares.{since}
use Rattle.task_schedule.proofs.Standing.{given_is_out, given_out}

module _ (Shows : Ask → ℕ → Talk → Class → List ℕ → Type 0) (s : Shared) (setting : Setting) (planned : ℕ) (events : Events) (dispatched coming : List Dispatched)
    (r : IsRunOf Shows s setting planned events dispatched coming) (n : ℕ) (w : Work) (of_plan : slice_get s.works n ≡ Some w) where
  pub has_come_back : (o : Op) (k : ℕ) (x : Dispatched) (a : IsAt Shows s setting planned events dispatched coming r n w of_plan o k x) → IsBack Shows planned a.later (Sent n o k a.lane ∷ a.before) x
  has_come_back o k x a = elim a.comes [
    | inl none ↦ absurd (false_true (never none.1))
    | inr back ↦ back
  ]
    where
      never : NoneBack a.later x.dispatch.job → false ≡ true
      never none =
          let holds = all_holds Shows s setting planned events dispatched coming r n w of_plan in
          let piece = (r.works.each n w of_plan).3 in
          let ended = r.ended n k a.lane w o of_plan (contains_of events (Sent n o k a.lane) (subst (λ (z : Events). Has z (Sent n o k a.lane)) (sym a.is) (has_middle a.later (Sent n o k a.lane) a.before))) in
          let still = out_still Shows s setting planned events dispatched coming r n w of_plan o k [] a.later a.before a.lane x.dispatch.job a.is a.job_is none in
          let is : share w n events ≡ since w n a.later (Sent n o k a.lane ∷ a.before) ++ Gave (act.Send o k) ∷ with_taken w o k (share w n a.before) =
          ap (share w n) a.is ∙ share_since Shows s setting planned events dispatched coming r n w of_plan o k a.later a.before a.lane in
          let out : is_out (stage w (share w n events) (act.Send o k)) ≡ true =
          subst (λ (how : Stage). is_out how ≡ true) (sym (ap (λ (h : History). stage w h (act.Send o k)) is ∙ still.same ∙ given_out w o k (with_taken w o k (share w n a.before))))
          (given_is_out (stage w (with_taken w o k (share w n a.before)) (act.Send o k))) in
          not_out w (share w n events) piece holds (outcome_quiet w (share w n events) piece holds ended) (act.Send o k) out
