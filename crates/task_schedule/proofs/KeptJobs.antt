-- A task of which a job was kept to its end, and of which something else had failed, ended as failed.
use Rattle.std.proofs.Common.{◌≡◌, ◌≢◌, ◌∙◌, ◌⊎◌, ℕ, true, false, Some, refl, sym, subst, ap, inl, inr}
use Rattle.s3_model.specs.declared.outcomes.Cause.{Cause}
use Rattle.s3_model.specs.declared.outcomes.Outcome.{Outcome}
use Rattle.s3_model.specs.declared.outcomes.Outcome.TheVariants as outcome
use Rattle.s3_model.specs.declared.requests.Op.{Op}
use Rattle.s3_model.specs.declared.requests.Op.TheVariants as op
use Rattle.s3_model.specs.declared.tasks.Kind.{Kind}
use Rattle.s3_model.specs.declared.tasks.Kind.TheVariants as kind
use Rattle.s3_model.specs.declared.tries.Mark.{Mark}
use Rattle.task_acts.specs.declared.acts.Act.{Act}
use Rattle.task_acts.specs.declared.acts.Act.TheVariants as act
use Rattle.task_acts.specs.declared.acts.FileCame.TheVariants as file
use Rattle.task_acts.specs.declared.acts.Stage.{Stage}
use Rattle.task_acts.specs.declared.acts.Stage.TheVariants as at
use Rattle.task_acts.specs.declared.work.Work.{Work}
use Rattle.task_acts.specs.Ends.{is_by_request, outcome_of}
use Rattle.task_acts.specs.Histories.{Came, History, Returned}
use Rattle.task_acts.specs.Kept.{IsHistory}
use Rattle.task_acts.specs.Stages.{has_done, stage}
use Rattle.task_acts.specs.Work.{deciding_op}
use Rattle.shared_lemmas.proofs.Members.{has}
use Rattle.task_progress.specs.Progress.{HasPiece}
use Rattle.task_progress.proofs.Begun.{has_begun}
use Rattle.task_progress.proofs.Endings.{no}
use Rattle.task_progress.proofs.Progress.{IsCounted}
use Rattle.task_schedule.proofs.Deciders.{Follows, IsNoAbort, came_begun, decider, decider_of, failed_late, follows_done, prior, returned_begun}
use Rattle.task_schedule.proofs.Shown.{decides_is, outcomes_show}
use Rattle.task_schedule.specs.Outcomes.{HasDecidingMark, HasHappened, IsShownBy}

kept_failed : at.Kept ≡ at.Failed → ⊥
kept_failed e = cc

kept_not_done : (how : Stage) → how ≡ at.Kept → has_done how ≡ true → false ≡ true
kept_not_done how e d = subst (λ (x : Stage). has_done x ≡ true) e d

failed_not_done : (how : Stage) → how ≡ at.Failed → has_done how ≡ true → false ≡ true
failed_not_done how e d = subst (λ (x : Stage). has_done x ≡ true) e d

pub no_abort_of : (o : Op) (k : ℕ) → o ≢ op.Abort → IsNoAbort (act.Send o k)
no_abort_of op.Abort k apart = absurd (apart refl)
no_abort_of o k apart = tt

-- the one job that follows the deciding act
follows_one : (k : Kind) (o : Op) (n : ℕ) (b : Act) → Follows k (act.Send o n) → o ≢ op.Abort → Follows k b → IsCounted b → IsNoAbort b → act.Send o n ≡ b
follows_one k op.Abort n b f apart g c d = absurd (apart refl)
follows_one kind.Download op.Delete n (act.Send op.Delete m) f apart g c d = ap (act.Send op.Delete) (f ∙ sym g)
follows_one kind.Copy op.Delete n (act.Send op.Delete m) f apart g c d = ap (act.Send op.Delete) (f ∙ sym g)
follows_one k op.Delete n (act.Send op.Abort m) f apart g c d = absurd d
follows_one k op.Delete n act.DropTemp f apart g c d = absurd c
follows_one k op.Delete n act.Stamp f apart g c d = absurd c
follows_one kind.Download op.Delete n b f apart g c d = absurd g
follows_one kind.Copy op.Delete n b f apart g c d = absurd g
follows_one k o n b f apart g c d = absurd f

module _ (w : Work) (piece : HasPiece w) (h : History) (is : IsHistory w h) where
  -- an attempt of the deciding request was made only where it was given
  pub mark_begun : (of_mark : Mark) → HasDecidingMark w h of_mark → has_begun (stage w h (act.Send (deciding_op w) 0)) ≡ true
  mark_begun of_mark m = subst (λ (a : Act). has_begun (stage w h a) ≡ true) (decides_is w h is m.0 m.2).1 (came_begun w h is m.0 (has h (Came m.0) m.1))

  happened_begun : (k : Kind) → HasHappened w h k → has_begun (stage w h (decider_of w k)) ≡ true
  happened_begun kind.Upload d = mark_begun _ d
  happened_begun kind.Copy d = mark_begun _ d
  happened_begun kind.RemoveObject d = mark_begun _ d
  happened_begun kind.Download d = returned_begun w h is act.Rename file.Fine (has h (Returned act.Rename file.Fine) d)
  happened_begun kind.RemoveFile d = returned_begun w h is act.Remove file.Fine (has h (Returned act.Remove file.Fine) d)

  module _ (o : Op) (k : ℕ) (apart : o ≢ op.Abort) (kept : stage w h (act.Send o k) ≡ at.Kept) (b : Act) (counted : IsCounted b) (no_abort : IsNoAbort b) (failed : stage w h b ≡ at.Failed) where
    same_stage : act.Send o k ≡ b → ⊥
    same_stage e = kept_failed (sym kept ∙ ap (stage w h) e ∙ failed)

    -- so the deciding act was never given
    never_begun : has_begun (stage w h (decider w)) ≡ true → ⊥
    never_begun begun = by (prior w piece h is begun (act.Send o k) (subst (λ (how : Stage). has_begun how ≡ true) (sym kept) refl)) (failed_late w piece h is begun b failed)
      where
        done_late : (a : Act) → Follows w.of_kind a → IsCounted a → IsNoAbort a → has_begun (stage w h a) ≡ true → has_done (stage w h (decider w)) ≡ true
        done_late a f c d e = follows_done w h is w.of_kind refl a f c d e

        by : (act.Send o k ≡ decider w) ⊎ (has_done (stage w h (act.Send o k)) ≡ true) ⊎ Follows w.of_kind (act.Send o k) → (b ≡ decider w) ⊎ Follows w.of_kind b → ⊥
        by (inl j) (inl same) = same_stage (j ∙ sym same)
        by (inl j) (inr f) = no (kept_not_done (stage w h (decider w)) (ap (stage w h) (sym j) ∙ kept)
            (done_late b f counted no_abort (subst (λ (how : Stage). has_begun how ≡ true) (sym failed) refl)))
        by (inr (inl done)) x = no (kept_not_done (stage w h (act.Send o k)) kept done)
        by (inr (inr f)) (inl same) = no (failed_not_done (stage w h (decider w)) (ap (stage w h) (sym same) ∙ failed)
            (done_late (act.Send o k) f tt (no_abort_of o k apart) (subst (λ (how : Stage). has_begun how ≡ true) (sym kept) refl)))
        by (inr (inr f)) (inr g) = same_stage (follows_one w.of_kind o k b f apart g counted no_abort)

    -- and the task failed
    pub kept_fails : (how : Outcome) → outcome_of w h ≡ Some how → (why : Cause) × (how ≡ outcome.Failed why)
    kept_fails how e = by how (outcomes_show w h how piece is e)
      where
        of_request : (k : Kind) → is_by_request k ≡ true → decider_of w k ≡ act.Send (deciding_op w) 0
        of_request kind.Upload e = refl
        of_request kind.Copy e = refl
        of_request kind.RemoveObject e = refl
        of_request k e = no e

        of_kind : (k : Kind) → w.of_kind ≡ k → is_by_request k ≡ true → has_begun (stage w h (act.Send (deciding_op w) 0)) ≡ true → has_begun (stage w h (decider w)) ≡ true
        of_kind k so request e = subst (λ (a : Act). has_begun (stage w h a) ≡ true) (sym (ap (decider_of w) so ∙ of_request k request)) e

        by_request : (of_mark : Mark) → HasDecidingMark w h of_mark → ⊥
        by_request of_mark m = never_begun (of_kind w.of_kind refl (decides_is w h is m.0 m.2).0 (mark_begun of_mark m))

        by : (x : Outcome) → IsShownBy w h x → (why : Cause) × (x ≡ outcome.Failed why)
        by outcome.Done s = absurd (never_begun (happened_begun w.of_kind s.0))
        by (outcome.Copied why) s = absurd (never_begun (happened_begun w.of_kind s.0))
        by (outcome.Unknown why) s = absurd (by_request _ s.0)
        by (outcome.Failed why) s = (why, refl)
        by x s = absurd s
