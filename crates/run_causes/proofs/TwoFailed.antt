-- A task of which two acts failed ended as failed.
use Rattle.std.proofs.Common.{◌≡◌, ◌≢◌, ◌∙◌, ◌⊎◌, true, Some, refl, sym, subst, ap, inl, inr}
use Rattle.s3_model.specs.declared.outcomes.Cause.{Cause}
use Rattle.s3_model.specs.declared.outcomes.Outcome.{Outcome}
use Rattle.s3_model.specs.declared.outcomes.Outcome.TheVariants as outcome
use Rattle.s3_model.specs.declared.tasks.Kind.{Kind}
use Rattle.s3_model.specs.declared.tasks.Kind.TheVariants as kind
use Rattle.s3_model.specs.declared.tries.Mark.{Mark}
use Rattle.shared_lemmas.proofs.Members.{has}
use Rattle.task_acts.specs.declared.acts.Act.{Act}
use Rattle.task_acts.specs.declared.acts.Act.TheVariants as act
use Rattle.task_acts.specs.declared.acts.FileCame.TheVariants as file
use Rattle.task_acts.specs.declared.acts.Stage.{Stage}
use Rattle.task_acts.specs.declared.acts.Stage.TheVariants as at
use Rattle.task_acts.specs.declared.work.Work.{Work}
use Rattle.task_acts.specs.Ends.{is_by_request, outcome_of}
use Rattle.task_acts.specs.Failures.{is_stopped}
use Rattle.task_acts.specs.Histories.{History, Returned}
use Rattle.task_acts.specs.Kept.{IsHistory}
use Rattle.task_acts.specs.Rule.{is_decided_by, is_decided_in}
use Rattle.task_acts.specs.Stages.{has_done, stage}
use Rattle.task_acts.specs.Work.{deciding_op}
use Rattle.task_outcomes.proofs.Acts.{failed_removal}
use Rattle.task_progress.specs.Progress.{HasPiece}
use Rattle.task_progress.proofs.Begun.{has_begun}
use Rattle.task_progress.proofs.Endings.{no}
use Rattle.task_progress.proofs.Progress.{IsCounted}
use Rattle.task_schedule.proofs.Deciders.{Follows, IsNoAbort, decider, decider_of, failed_late, follows_done, returned_begun}
use Rattle.task_schedule.proofs.KeptJobs.{mark_begun}
use Rattle.task_schedule.proofs.Shown.{decides_is, outcomes_show}
use Rattle.task_schedule.specs.Outcomes.{HasDecidingMark, HasHappened, IsShownBy}

-- an act that failed, and is none that tidies up
pub record HasFailed (w : Work) (h : History) (of_act : Act) : Type 0 where
  pub counted : IsCounted of_act
  pub no_abort : IsNoAbort of_act
  pub failed : stage w h of_act ≡ at.Failed

module _ (w : Work) (piece : HasPiece w) (h : History) (is : IsHistory w h) (a b : Act) (apart : a ≢ b) (first : HasFailed w h a) (second : HasFailed w h b) where
  -- it was not decided
  not_decided : is_decided_in w h ≡ true → ⊥
  not_decided decided = apart (failed_removal w h is decided piece a first.counted first.failed ∙ sym (failed_removal w h is decided piece b second.counted second.failed))

  decided_of : (k : Kind) → has_done (stage w h (decider_of w k)) ≡ true → is_decided_by w (stage w h) (is_stopped w h) k ≡ true
  decided_of kind.Upload e = e
  decided_of kind.Download e = e
  decided_of kind.Copy e = e
  decided_of kind.RemoveObject e = e
  decided_of kind.RemoveFile e = e

  follows_not : (of_act : Act) → HasFailed w h of_act → Follows w.of_kind of_act → ⊥
  follows_not of_act f follows = not_decided (decided_of w.of_kind (follows_done w h is w.of_kind refl of_act follows f.counted f.no_abort
      (subst (λ (how : Stage). has_begun how ≡ true) (sym f.failed) refl)))

  -- so what decides it was not given
  never_begun : has_begun (stage w h (decider w)) ≡ true → ⊥
  never_begun begun = by (failed_late w piece h is begun a first.failed) (failed_late w piece h is begun b second.failed)
    where
      by : (a ≡ decider w) ⊎ Follows w.of_kind a → (b ≡ decider w) ⊎ Follows w.of_kind b → ⊥
      by (inl e) (inl f) = apart (e ∙ sym f)
      by (inr e) f = follows_not a first e
      by (inl e) (inr f) = follows_not b second f

  of_request : (k : Kind) → is_by_request k ≡ true → decider_of w k ≡ act.Send (deciding_op w) 0
  of_request kind.Upload e = refl
  of_request kind.Copy e = refl
  of_request kind.RemoveObject e = refl
  of_request k e = no e

  by_mark : (of_mark : Mark) → HasDecidingMark w h of_mark → ⊥
  by_mark of_mark m =
      never_begun (subst (λ (x : Act). has_begun (stage w h x) ≡ true) (sym (of_request w.of_kind (decides_is w h is m.0 m.2).0)) (mark_begun w piece h is of_mark m))

  not_happened : (k : Kind) → w.of_kind ≡ k → HasHappened w h k → ⊥
  not_happened kind.Upload so d = by_mark _ d
  not_happened kind.Copy so d = by_mark _ d
  not_happened kind.RemoveObject so d = by_mark _ d
  not_happened kind.Download so d =
      never_begun (subst (λ (x : Act). has_begun (stage w h x) ≡ true) (sym (ap (decider_of w) so)) (returned_begun w h is act.Rename file.Fine (has h (Returned act.Rename file.Fine) d)))
  not_happened kind.RemoveFile so d =
      never_begun (subst (λ (x : Act). has_begun (stage w h x) ≡ true) (sym (ap (decider_of w) so)) (returned_begun w h is act.Remove file.Fine (has h (Returned act.Remove file.Fine) d)))

  pub fails : (how : Outcome) → outcome_of w h ≡ Some how → (why : Cause) × (how ≡ outcome.Failed why)
  fails how e = by how (outcomes_show w h how piece is e)
    where
      by : (x : Outcome) → IsShownBy w h x → (why : Cause) × (x ≡ outcome.Failed why)
      by outcome.Done s = absurd (not_happened w.of_kind refl s.0)
      by (outcome.Copied why) s = absurd (not_happened w.of_kind refl s.0)
      by (outcome.Unknown why) s = absurd (by_mark _ s.0)
      by (outcome.Failed why) s = (why, refl)
      by x s = absurd s
