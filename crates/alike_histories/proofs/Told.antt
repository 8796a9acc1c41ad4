-- What is said of a task is said of what is told of it.
use Rattle.std.proofs.Common.{◌≡◌, ◌∙◌, ◌&&◌, ◌||◌, [], ◌∷◌, ℕ, Bool, true, false, List, Option, Some, None, refl, sym, ap}
use Rattle.std.proofs.Common.{is_some, map, not, if◌then◌else◌}
use Rattle.std.proofs.Math.Path.{fun_ext}
use Rattle.std.specs.List.{list_any}
use Rattle.std.specs.Option.{option_or}
use Rattle.s3_model.specs.declared.outcomes.Cause.{Cause}
use Rattle.s3_model.specs.declared.outcomes.Outcome.{Outcome}
use Rattle.s3_model.specs.declared.outcomes.Outcome.TheVariants as end
use Rattle.s3_model.specs.declared.outcomes.Reason.{Reason}
use Rattle.task_acts.specs.declared.acts.Act.{Act}
use Rattle.task_acts.specs.declared.acts.Act.TheVariants as act
use Rattle.task_acts.specs.declared.acts.Stage.{Stage}
use Rattle.task_acts.specs.declared.work.Work.{Work}
use Rattle.task_acts.specs.Ends.{cancel_cause, copied_for, decides, failed_for, has_tries, has_uncertain}
use Rattle.task_acts.specs.Ends.{is_uncertain, last_cause, outcome_of, removal, settled, unknown_for, unless_memory}
use Rattle.task_acts.specs.Failures.{carried_cause, failure_by, first_failure, first_reason, is_memory, is_stopped}
use Rattle.task_acts.specs.Failures.{wanted_memory}
use Rattle.task_acts.specs.Histories.{Came, Cancelled, Gave, History, Returned, Taken, is_act, sent}
use Rattle.task_acts.specs.Kept.{etag_in, etag_of, etags_of, upload_in, upload_of}
use Rattle.task_acts.specs.Rule.{first_ready, is_decided, is_idle}
use Rattle.task_acts.specs.Stages.{carried_stage, file_stage, given_stage, has_done, stage}
use Rattle.task_acts.specs.Work.{numbers, piece_op}
use Rattle.alike_histories.specs.Alike.{told, told_cancel}

or_none : {X : Type 0} (x : Option X) → option_or x None ≡ x
or_none None = refl
or_none (Some x) = refl

or_same : {X : Type 0} (x y : Option X) → option_or (option_or x y) y ≡ option_or x y
or_same None None = refl
or_same None (Some y) = refl
or_same (Some x) y = refl

or_itself : {X : Type 0} (x : Option X) → option_or x x ≡ x
or_itself None = refl
or_itself (Some x) = refl

or_false : (b : Bool) → (b || false) ≡ b
or_false true = refl
or_false false = refl

-- what a cancel does not change is told with it as without it
cancelled : {X : Type 0} (says : History → X) (came : Bool) (r : Reason) (h : History) → says h ≡ says (Cancelled r ∷ h)
    → says h ≡ says (told_cancel came r h)
cancelled says true r h e = refl
cancelled says false r h e = e

-- of two cancels the first is told
reason_cancelled : (h : History) (r : Reason) (x : Option Reason) → first_reason h ≡ x
    → first_reason h ≡ first_reason (told h)
    → option_or (first_reason h) (Some r) ≡ first_reason (told_cancel (is_some (first_reason h)) r (told h))
reason_cancelled h r (Some q) e same =
    ap (λ (x : Option Reason). option_or x (Some r)) e ∙ sym (sym same ∙ e)
    ∙ ap (λ (x : Option Reason). first_reason (told_cancel (is_some x) r (told h))) (sym e)
reason_cancelled h r None e same =
    ap (λ (x : Option Reason). option_or x (Some r)) same
    ∙ ap (λ (x : Option Reason). first_reason (told_cancel (is_some x) r (told h))) (sym e)

module _ (w : Work) where
  -- ---- failures and cancels

  pub failure : (h : History) → first_failure w h ≡ first_failure w (told h)
  failure [] = refl
  failure (Taken o n ∷ h) = or_none (first_failure w h) ∙ failure h
  failure (Gave a ∷ h) = ap (λ (x : Option Cause). option_or x None) (failure h)
  failure (Came c ∷ h) = ap (λ (x : Option Cause). option_or x (failure_by w (Came c))) (failure h)
  failure (Returned a r ∷ h) = ap (λ (x : Option Cause). option_or x (failure_by w (Returned a r))) (failure h)
  failure (Cancelled r ∷ h) = or_none (first_failure w h) ∙ failure h
      ∙ cancelled (λ (x : History). first_failure w x) (is_some (first_reason h)) r (told h)
      (sym (or_none (first_failure w (told h))))

  pub reason : (h : History) → first_reason h ≡ first_reason (told h)
  reason [] = refl
  reason (Taken o n ∷ h) = or_none (first_reason h) ∙ reason h
  reason (Gave a ∷ h) = ap (λ (x : Option Reason). option_or x None) (reason h)
  reason (Came c ∷ h) = ap (λ (x : Option Reason). option_or x None) (reason h)
  reason (Returned a r ∷ h) = ap (λ (x : Option Reason). option_or x None) (reason h)
  reason (Cancelled r ∷ h) = reason_cancelled h r (first_reason h) refl (reason h)

  pub stopped : (h : History) → is_stopped w h ≡ is_stopped w (told h)
  stopped h = ap (λ (x : Option Cause). is_some x || is_some (first_reason h)) (failure h)
      ∙ ap (λ (x : Option Reason). is_some (first_failure w (told h)) || is_some x) (reason h)

  memory : (h : History) → wanted_memory w h ≡ wanted_memory w (told h)
  memory [] = refl
  memory (Taken o n ∷ h) = or_false (wanted_memory w h) ∙ memory h
  memory (Gave a ∷ h) = ap (λ (x : Bool). x || false) (memory h)
  memory (Came c ∷ h) = ap (λ (x : Bool). x || is_memory (failure_by w (Came c))) (memory h)
  memory (Returned a r ∷ h) = ap (λ (x : Bool). x || is_memory (failure_by w (Returned a r))) (memory h)
  memory (Cancelled r ∷ h) = or_false (wanted_memory w h) ∙ memory h
      ∙ cancelled (λ (x : History). wanted_memory w x) (is_some (first_reason h)) r (told h)
      (sym (or_false (wanted_memory w (told h))))

  -- ---- acts

  pub stages : (h : History) (a : Act) → stage w h a ≡ stage w (told h) a
  stages [] a = refl
  stages (Taken o n ∷ h) a = stages h a
  stages (Gave g ∷ h) a =
      ap (λ (x : Stage). if is_act a g then given_stage x else stage w h a) (stages h g)
      ∙ ap (λ (x : Stage). if is_act a g then given_stage (stage w (told h) g) else x) (stages h a)
  stages (Came c ∷ h) a =
      ap (λ (t : Bool). if is_act a (sent c) then carried_stage w t c else stage w h a) (stopped h)
      ∙ ap (λ (x : Stage). if is_act a (sent c) then carried_stage w (is_stopped w (told h)) c else x) (stages h a)
  stages (Returned g r ∷ h) a = ap (λ (x : Stage). if is_act a g then file_stage r else x) (stages h a)
  stages (Cancelled r ∷ h) a =
      stages h a ∙ cancelled (λ (x : History). stage w x a) (is_some (first_reason h)) r (told h) refl

  -- what the rule says by how far each act is, and whether the task has stopped
  pub by_acts : {X : Type 0} (said : (Act → Stage) → Bool → X) (h : History)
      → said (stage w h) (is_stopped w h) ≡ said (stage w (told h)) (is_stopped w (told h))
  by_acts said h =
      ap (λ (f : Act → Stage). said f (is_stopped w h)) (fun_ext (stages h))
      ∙ ap (λ (t : Bool). said (stage w (told h)) t) (stopped h)

  -- ---- the end

  uncertain : (h : History) → has_uncertain w h ≡ has_uncertain w (told h)
  uncertain [] = refl
  uncertain (Taken o n ∷ h) = uncertain h
  uncertain (Gave a ∷ h) = uncertain h
  uncertain (Came c ∷ h) =
      ap (λ (x : Bool). x || (decides w c && list_any is_uncertain c.tries)) (uncertain h)
  uncertain (Returned a r ∷ h) = uncertain h
  uncertain (Cancelled r ∷ h) =
      uncertain h ∙ cancelled (λ (x : History). has_uncertain w x) (is_some (first_reason h)) r (told h) refl

  last : (h : History) → last_cause w h ≡ last_cause w (told h)
  last [] = refl
  last (Taken o n ∷ h) = last h
  last (Gave a ∷ h) = last h
  last (Came c ∷ h) =
      ap (λ (x : Option Cause). if decides w c && has_tries c then carried_cause w c else x) (last h)
  last (Returned a r ∷ h) = last h
  last (Cancelled r ∷ h) =
      last h ∙ cancelled (λ (x : History). last_cause w x) (is_some (first_reason h)) r (told h) refl

  -- the end by all that it looks at
  abbrev ends_by : (Act → Stage) → (stopped left memory : Bool) → (first last : Option Cause) → Option Reason
      → Option Outcome
  ends_by f t left memory first last why =
      if is_some (first_ready w f t) || not (is_idle w f t) then None
      else if is_decided w f t && (not w.moves || has_done (f (removal w.of_kind)))
      then Some end.Done
      else if left && not (is_decided w f t) then unknown_for (unless_memory memory last)
      else if is_decided w f t then copied_for (unless_memory memory (option_or first (cancel_cause why)))
      else failed_for (unless_memory memory (option_or first (cancel_cause why)))

  abbrev ends_of : History → Option Outcome
  ends_of h = ends_by (stage w h) (is_stopped w h) (has_uncertain w h) (wanted_memory w h) (first_failure w h)
      (last_cause w h) (first_reason h)

  settles : (h : History) → settled w h ≡ settled w (told h)
  settles h =
      let u = told h in
      ap (λ (f : Act → Stage). ends_by f (is_stopped w h) (has_uncertain w h) (wanted_memory w h) (first_failure w h)
      (last_cause w h) (first_reason h)) (fun_ext (stages h))
      ∙ ap (λ (t : Bool). ends_by (stage w u) t (has_uncertain w h) (wanted_memory w h) (first_failure w h)
      (last_cause w h) (first_reason h)) (stopped h)
      ∙ ap (λ (x : Bool). ends_by (stage w u) (is_stopped w u) x (wanted_memory w h) (first_failure w h)
      (last_cause w h) (first_reason h)) (uncertain h)
      ∙ ap (λ (x : Bool). ends_by (stage w u) (is_stopped w u) (has_uncertain w u) x (first_failure w h)
      (last_cause w h) (first_reason h)) (memory h)
      ∙ ap (λ (x : Option Cause). ends_by (stage w u) (is_stopped w u) (has_uncertain w u) (wanted_memory w u) x
      (last_cause w h) (first_reason h)) (failure h)
      ∙ ap (λ (x : Option Cause). ends_by (stage w u) (is_stopped w u) (has_uncertain w u) (wanted_memory w u)
      (first_failure w u) x (first_reason h)) (last h)
      ∙ ap (λ (x : Option Reason). ends_by (stage w u) (is_stopped w u) (has_uncertain w u) (wanted_memory w u)
      (first_failure w u) (last_cause w u) x) (reason h)

  -- that a job was taken settles nothing anew
  settled_again : (h : History) → option_or (outcome_of w h) (settled w h) ≡ outcome_of w h
  settled_again [] = or_itself (settled w [])
  settled_again (e ∷ h) = or_same (outcome_of w h) (settled w (e ∷ h))

  -- a second cancel settles nothing anew
  outcome_cancelled : (h : History) (r : Reason) (x : Option Reason) → first_reason h ≡ x
      → outcome_of w h ≡ outcome_of w (told h)
      → option_or (outcome_of w h) (settled w (Cancelled r ∷ h))
      ≡ outcome_of w (told_cancel (is_some (first_reason h)) r (told h))
  outcome_cancelled h r (Some q) e ended =
      let same : told (Cancelled r ∷ h) ≡ told h =
      ap (λ (x : Option Reason). told_cancel (is_some x) r (told h)) e in
      ap (λ (x : Option Outcome). option_or (outcome_of w h) x)
      (settles (Cancelled r ∷ h) ∙ ap (λ (x : History). settled w x) same ∙ sym (settles h))
      ∙ settled_again h ∙ ended ∙ sym (ap (λ (x : History). outcome_of w x) same)
  outcome_cancelled h r None e ended =
      let same : told (Cancelled r ∷ h) ≡ Cancelled r ∷ told h =
      ap (λ (x : Option Reason). told_cancel (is_some x) r (told h)) e in
      ap (λ (x : Option Outcome). option_or x (settled w (Cancelled r ∷ h))) ended
      ∙ ap (λ (x : Option Outcome). option_or (outcome_of w (told h)) x)
      (settles (Cancelled r ∷ h) ∙ ap (λ (x : History). settled w x) same)
      ∙ sym (ap (λ (x : History). outcome_of w x) same)

  pub outcome : (h : History) → outcome_of w h ≡ outcome_of w (told h)
  outcome [] = refl
  outcome (Taken o n ∷ h) =
      ap (λ (x : Option Outcome). option_or (outcome_of w h) x)
      (settles (Taken o n ∷ h) ∙ sym (settles h)) ∙ settled_again h ∙ outcome h
  outcome (Gave a ∷ h) =
      ap (λ (x : Option Outcome). option_or x (settled w (Gave a ∷ h))) (outcome h)
      ∙ ap (λ (x : Option Outcome). option_or (outcome_of w (told h)) x) (settles (Gave a ∷ h))
  outcome (Came c ∷ h) =
      ap (λ (x : Option Outcome). option_or x (settled w (Came c ∷ h))) (outcome h)
      ∙ ap (λ (x : Option Outcome). option_or (outcome_of w (told h)) x) (settles (Came c ∷ h))
  outcome (Returned a r ∷ h) =
      ap (λ (x : Option Outcome). option_or x (settled w (Returned a r ∷ h))) (outcome h)
      ∙ ap (λ (x : Option Outcome). option_or (outcome_of w (told h)) x) (settles (Returned a r ∷ h))
  outcome (Cancelled r ∷ h) = outcome_cancelled h r (first_reason h) refl (outcome h)

  -- ---- the upload and the entity tags

  pub upload : (h : History) → upload_of h ≡ upload_of (told h)
  upload [] = refl
  upload (Taken o n ∷ h) = upload h
  upload (Gave a ∷ h) = upload h
  upload (Came c ∷ h) = ap (λ (x : Option (List ℕ)). option_or (upload_in c) x) (upload h)
  upload (Returned a r ∷ h) = upload h
  upload (Cancelled r ∷ h) =
      upload h ∙ cancelled (λ (x : History). upload_of x) (is_some (first_reason h)) r (told h) refl

  etag : (h : History) (a : Act) → etag_of h a ≡ etag_of (told h) a
  etag [] a = refl
  etag (Taken o n ∷ h) a = etag h a
  etag (Gave g ∷ h) a = etag h a
  etag (Came c ∷ h) a = ap (λ (x : Option (List ℕ)). if is_act a (sent c) then etag_in c.ending else x) (etag h a)
  etag (Returned g r ∷ h) a = etag h a
  etag (Cancelled r ∷ h) a =
      etag h a ∙ cancelled (λ (x : History). etag_of x a) (is_some (first_reason h)) r (told h) refl

  pub etags : (h : History) → etags_of w h ≡ etags_of w (told h)
  etags h = ap (λ (f : ℕ → Option (List ℕ)). map f (numbers w))
      (fun_ext (λ (n : ℕ). etag h (act.Send (piece_op w.of_kind w.small) n)))
