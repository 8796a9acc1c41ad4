-- Which acts of a task can fail, by its kind and by whether it was decided.
use Rattle.std.proofs.Common.{◌≡◌, ◌≢◌, ◌∙◌, ◌==◌, ◌&&◌, ◌⊎◌, ℕ, true, false, refl, sym, subst, ap, inl, inr, not}
use Rattle.std.proofs.lemmas.Bool.{and_parts}
use Rattle.job_terms.specs.Ops.{deciding}
use Rattle.s3_model.specs.declared.requests.Op.TheVariants as op
use Rattle.s3_model.specs.declared.tasks.Kind.{Kind}
use Rattle.s3_model.specs.declared.tasks.Kind.TheVariants as kind
use Rattle.shared_lemmas.proofs.Members.{contains_of}
use Rattle.task_acts.specs.declared.acts.Act.{Act}
use Rattle.task_acts.specs.declared.acts.Act.TheVariants as act
use Rattle.task_acts.specs.declared.acts.Stage.{Stage}
use Rattle.task_acts.specs.declared.acts.Stage.TheVariants as at
use Rattle.task_acts.specs.declared.work.Work.{Work}
use Rattle.task_acts.specs.Ends.{removal}
use Rattle.task_acts.specs.Failures.{is_stopped}
use Rattle.task_acts.specs.Histories.{Came, Gave, History}
use Rattle.task_acts.specs.Kept.{IsHistory, is_file_act}
use Rattle.task_acts.specs.Laws.{IsTidying}
use Rattle.task_acts.specs.Rule.{is_decided_by, is_decided_in, is_due}
use Rattle.task_acts.specs.Stages.{has_done, may_be_given, stage}
use Rattle.task_acts.proofs.RuleLaws.{aborts_are_last}
use Rattle.task_progress.specs.Progress.{HasPiece}
use Rattle.task_progress.proofs.Begun.{has_begun, is_false}
use Rattle.task_progress.proofs.Endings.{no}
use Rattle.task_progress.proofs.Progress.{IsCounted}
use Rattle.task_progress.proofs.Quiet.{done_has_begun}
use Rattle.task_progress.proofs.Tags.{came_fine}
use Rattle.task_schedule.proofs.Deciders.{Follows, IsNoAbort, decider, decider_of, failed_late, named_is}
use Rattle.task_schedule.proofs.Givings.{aborted_is_not_completed}
use Rattle.task_schedule.proofs.Standing.{begun_given, was_given}

-- ---- calls on files, by the kind

-- the calls that a task of that kind makes, but those that tidy up
abbrev pub IsCallFor : Kind → Act → Type 0
IsCallFor kind.Upload (act.Read n) = Unit {0}
IsCallFor kind.Upload act.Remove = Unit {0}
IsCallFor kind.Download act.Assemble = Unit {0}
IsCallFor kind.Download (act.Place n) = Unit {0}
IsCallFor kind.Download act.Rename = Unit {0}
IsCallFor kind.RemoveFile act.Remove = Unit {0}
IsCallFor k a = ⊥

due_call : (w : Work) (f : Act → Stage) (k : Kind) (a : Act) → is_due w f false k a ≡ true → is_file_act a ≡ true → IsCallFor k a
due_call w f kind.Upload (act.Read n) e call = tt
due_call w f kind.Upload act.Remove e call = tt
due_call w f kind.Download act.Assemble e call = tt
due_call w f kind.Download (act.Place n) e call = tt
due_call w f kind.Download act.Rename e call = tt
due_call w f kind.RemoveFile act.Remove e call = tt
due_call w f k (act.Send o n) e call = no call
due_call w f k a e call = no e

tidies_no_call : (a : Act) → IsTidying a → IsCounted a → is_file_act a ≡ true → ⊥
tidies_no_call (act.Send op.Abort n) t c call = no call
tidies_no_call act.DropTemp t c call = c
tidies_no_call act.Stamp t c call = c
tidies_no_call a t c call = t

module _ (w : Work) (h : History) (is : IsHistory w h) where
  -- what was given was due, or tidies up
  pub was_due : (a : Act) → has_begun (stage w h a) ≡ true → ((f : Act → Stage) × (is_due w f false w.of_kind a ≡ true)) ⊎ IsTidying a
  was_due a begun =
      let g = was_given w h is a begun in
      elim (named_is w (stage w g.before) (is_stopped w g.before) a (and_parts (may_be_given (stage w g.before a)) _ g.ready).1) [
        | inl due ↦ inl (stage w g.before, due)
        | inr tidies ↦ inr tidies
      ]

  pub call_for : (a : Act) → has_begun (stage w h a) ≡ true → IsCounted a → is_file_act a ≡ true → IsCallFor w.of_kind a
  call_for a begun counted call = elim (was_due a begun) [
    | inl due ↦ due_call w due.0 w.of_kind a due.1 call
    | inr tidies ↦ absurd (tidies_no_call a tidies counted call)
  ]

  -- ---- a task that was decided

  module _ (decided : is_decided_in w h ≡ true) where
    by_kind : (k : Kind) → is_decided_by w (stage w h) (is_stopped w h) k ≡ true → has_done (stage w h (decider_of w k)) ≡ true
    by_kind kind.Upload e = e
    by_kind kind.Download e = e
    by_kind kind.Copy e = e
    by_kind kind.RemoveObject e = e
    by_kind kind.RemoveFile e = e

    pub decider_done : has_done (stage w h (decider w)) ≡ true
    decider_done = by_kind w.of_kind decided

    -- where an upload was created the task goes in parts
    create_decides : (f : Act → Stage) (k : Kind) → w.of_kind ≡ k → (n : ℕ) → is_due w f false k (act.Send op.Create n) ≡ true → decider_of w k ≡ act.Send op.Complete 0
    create_decides f kind.Upload so n e = ap (λ o. act.Send o 0) (ap (λ (x : Kind). deciding x w.small) so ∙ ap (deciding kind.Upload) (is_false w.small (and_parts (not w.small) (n == 0) e).0))
    create_decides f kind.Copy so n e = ap (λ o. act.Send o 0) (ap (λ (x : Kind). deciding x w.small) so ∙ ap (deciding kind.Copy) (is_false w.small (and_parts (not w.small) (n == 0) e).0))
    create_decides f k so n e = no e

    -- no Abort was given
    pub none_aborted : (k : ℕ) → has_begun (stage w h (act.Send op.Abort k)) ≡ true → ⊥
    none_aborted k begun =
        let g = was_given w h is (act.Send op.Abort k) begun in
        let last = (aborts_are_last w g.before k g.ready).1 in
        let create = was_given w g.before g.holds (act.Send op.Create 0) (done_has_begun (stage w g.before (act.Send op.Create 0)) last.created) in
        elim (named_is w (stage w create.before) (is_stopped w create.before) (act.Send op.Create 0) (and_parts (may_be_given (stage w create.before (act.Send op.Create 0))) _ create.ready).1) [
          | inl due ↦ completed (create_decides (stage w create.before) w.of_kind refl 0 due)
          | inr tidies ↦ tidies
        ]
      where
        completed : decider w ≡ act.Send op.Complete 0 → ⊥
        completed same =
            let came = came_fine w op.Complete 0 h is (subst (λ (a : Act). has_done (stage w h a) ≡ true) same decider_done) in
            aborted_is_not_completed w h k is (contains_of h (Gave (act.Send op.Abort k)) (begun_given w h is (act.Send op.Abort k) begun)) came.carried came.said
            (contains_of h (Came came.carried) came.known) (ap (λ o. act.Send o came.carried.job.id.number) came.op_is ∙ ap (act.Send op.Complete) came.number_is) came.gains

    no_abort : (a : Act) → has_begun (stage w h a) ≡ true → IsNoAbort a
    no_abort (act.Send op.Abort k) begun = absurd (none_aborted k begun)
    no_abort a begun = tt

    failed_not_done : (how : Stage) → how ≡ at.Failed → has_done how ≡ true → false ≡ true
    failed_not_done how e d = subst (λ (x : Stage). has_done x ≡ true) e d

    follows_removal : (k : Kind) (a : Act) → Follows k a → IsCounted a → IsNoAbort a → a ≡ removal k
    follows_removal kind.Upload act.Remove f c d = refl
    follows_removal kind.Download (act.Send op.Delete n) f c d = ap (act.Send op.Delete) f
    follows_removal kind.Copy (act.Send op.Delete n) f c d = ap (act.Send op.Delete) f
    follows_removal k (act.Send op.Abort n) f c d = absurd d
    follows_removal k act.DropTemp f c d = absurd c
    follows_removal k act.Stamp f c d = absurd c
    follows_removal k a f c d = absurd f

    -- what failed removes the source of a move
    pub failed_removal : HasPiece w → (a : Act) → IsCounted a → stage w h a ≡ at.Failed → a ≡ removal w.of_kind
    failed_removal piece a counted failed = elim (failed_late w piece h is (done_has_begun (stage w h (decider w)) decider_done) a failed) [
      | inl same ↦ no (failed_not_done (stage w h a) failed (subst (λ (b : Act). has_done (stage w h b) ≡ true) (sym same) decider_done))
      | inr follows ↦ follows_removal w.of_kind a follows counted (no_abort a (subst (λ (how : Stage). has_begun how ≡ true) (sym failed) refl))
    ]

  -- ---- the source of a move

  moved_due : (f : Act → Stage) (k : Kind) → is_due w f false k (removal k) ≡ true → (k ≢ kind.RemoveObject) → (k ≢ kind.RemoveFile) → w.moves ≡ true
  moved_due f kind.Upload e a b = (and_parts w.moves _ e).0
  moved_due f kind.Download e a b = (and_parts w.moves _ (and_parts (w.moves && (0 == 0)) _ e).0).0
  moved_due f kind.Copy e a b = (and_parts w.moves _ (and_parts (w.moves && (0 == 0)) _ e).0).0
  moved_due f kind.RemoveObject e a b = absurd (a refl)
  moved_due f kind.RemoveFile e a b = absurd (b refl)

  removal_tidies : (k : Kind) → IsTidying (removal k) → ⊥
  removal_tidies kind.Upload t = t
  removal_tidies kind.Download t = t
  removal_tidies kind.Copy t = t
  removal_tidies kind.RemoveObject t = t
  removal_tidies kind.RemoveFile t = t

  -- only a move removes its source
  pub removes_moved : w.of_kind ≢ kind.RemoveObject → w.of_kind ≢ kind.RemoveFile → has_begun (stage w h (removal w.of_kind)) ≡ true → w.moves ≡ true
  removes_moved a b begun = elim (was_due (removal w.of_kind) begun) [
    | inl due ↦ moved_due due.0 w.of_kind due.1 a b
    | inr tidies ↦ absurd (removal_tidies w.of_kind tidies)
  ]

-- an upload is decided by its request
pub decided_by_request : (w : Work) (h : History) → w.of_kind ≡ kind.Upload → has_done (stage w h (decider w)) ≡ true → is_decided_in w h ≡ true
decided_by_request w h so done = subst (λ (k : Kind). is_decided_by w (stage w h) (is_stopped w h) k ≡ true) (sym so) (subst (λ (a : Act). has_done (stage w h a) ≡ true) (ap (decider_of w) so) done)
