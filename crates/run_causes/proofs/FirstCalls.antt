-- A task that failed first by a call on files, or for want of memory, has an outcome that says so.
use Rattle.std.proofs.Common.{◌≡◌, ◌∙◌, ◌&&◌, ◌||◌, ◌++◌, ℕ, Bool, true, false, [], ◌∷◌, Option, Some, None, refl, sym, subst, ap, inl, inr, not}
use Rattle.std.specs.Option.{option_or}
use Rattle.std.specs.Prelude.{if◌then◌else◌, is_some}
use Rattle.run_promise.specs.Settled.{is_upload_kind, tells_file_failed}
use Rattle.s3_model.specs.declared.outcomes.Cause.{Cause}
use Rattle.s3_model.specs.declared.outcomes.Cause.TheVariants as cause
use Rattle.s3_model.specs.declared.outcomes.Outcome.TheVariants as outcome
use Rattle.s3_model.specs.declared.tasks.Kind.{Kind}
use Rattle.s3_model.specs.declared.tasks.Kind.TheVariants as kind
use Rattle.s3_model.specs.declared.tasks.Task.{Task}
use Rattle.s3_outside.specs.declared.files.FileFault.TheVariants as fault
use Rattle.shared_lemmas.proofs.Clashes.{none_is_some, some_is}
use Rattle.shared_lemmas.proofs.Members.{Has, has_middle}
use Rattle.task_acts.specs.declared.acts.Act.{Act}
use Rattle.task_acts.specs.declared.acts.Act.TheVariants as act
use Rattle.task_acts.specs.declared.acts.FileCame.{FileCame}
use Rattle.task_acts.specs.declared.acts.FileCame.TheVariants as file
use Rattle.task_acts.specs.declared.work.Work.{Work}
use Rattle.task_acts.specs.Ends.{cancel_cause, copied_for, failed_for, how_ended, is_left_open, is_whole, open_cause, outcome_of, stop_cause, unknown_for, unless_memory}
use Rattle.task_acts.specs.Failures.{call_of, carried_cause, failure_by, file_cause, first_failure, first_reason, is_cut_short, is_memory, result_cause, wanted_memory}
use Rattle.task_acts.specs.Histories.{Came, Cancelled, Gave, Happening, History, Returned, Taken}
use Rattle.task_acts.specs.Kept.{IsHistory, MayCome}
use Rattle.task_acts.specs.Rule.{is_decided_in}
use Rattle.task_outcomes.proofs.Acts.{IsCallFor, call_for}
use Rattle.task_outcomes.proofs.Settling.{IsIdle, ended_at, fails_first}
use Rattle.task_progress.specs.Progress.{HasPiece}
use Rattle.task_progress.proofs.Endings.{no, skipped}
use Rattle.task_schedule.proofs.Deciders.{returned_begun}
use Rattle.task_schedule.proofs.Standing.{earlier}
use Rattle.task_schedule.proofs.Stopping.{failure_stays, failure_there}
use Rattle.task_schedule.specs.Journals.{fails_otherwise, is_otherwise}

and_parts_not : (b c : Bool) → (not b && c) ≡ true → (b ≡ false) × (c ≡ true)
and_parts_not true c e = no e
and_parts_not false c e = (refl, e)

-- what fails so is a failure
otherwise_fails : (w : Work) (x : Happening) → is_otherwise w x ≡ true → is_some (failure_by w x) ≡ true
otherwise_fails w (Came c) e =
    let two = and_parts_not (is_cut_short w c) (is_memory (carried_cause w c)) e in
    ap (λ (y : Option Cause). is_some y) (skipped (is_cut_short w c) None (carried_cause w c) two.0) ∙ some (carried_cause w c) two.1
  where
    some : (why : Option Cause) → is_memory why ≡ true → is_some why ≡ true
    some None f = f
    some (Some why) f = refl
otherwise_fails w (Returned a r) e = e
otherwise_fails w (Gave a) e = no e
otherwise_fails w (Cancelled reason) e = no e
otherwise_fails w (Taken o k) e = no e

module _ (w : Work) where
  none_otherwise : (h : History) → fails_otherwise w h ≡ true → is_some (first_failure w h) ≡ true
  none_otherwise [] e = e
  none_otherwise (x ∷ h) e = by (fails_otherwise w h) refl e (λ f. none_otherwise h f)
    where
      by : (b : Bool) → fails_otherwise w h ≡ b → (b || (not (is_some (first_failure w h)) && is_otherwise w x)) ≡ true → (fails_otherwise w h ≡ true → is_some (first_failure w h) ≡ true)
          → is_some (first_failure w (x ∷ h)) ≡ true
      by true f e rest = failure_stays w (x ∷ []) h (rest f)
      by false f e rest = failure_there w (x ∷ h) x (inl refl) (otherwise_fails w x (and_parts_not (is_some (first_failure w h)) (is_otherwise w x) e).1)

  -- the first failure is the one that is so
  otherwise_first : (later : History) (x : Happening) (before : History) (why : Cause) → first_failure w before ≡ None → failure_by w x ≡ Some why → fails_otherwise w (later ++ x ∷ before) ≡ true
      → is_otherwise w x ≡ true
  otherwise_first [] x before why none failure e = by (fails_otherwise w before) refl e
    where
      by : (b : Bool) → fails_otherwise w before ≡ b → (b || (not (is_some (first_failure w before)) && is_otherwise w x)) ≡ true → is_otherwise w x ≡ true
      by true f e = no (sym (ap (λ (y : Option Cause). is_some y) none) ∙ none_otherwise before f)
      by false f e = (and_parts_not (is_some (first_failure w before)) (is_otherwise w x) e).1
  otherwise_first (y ∷ later) x before why none failure e = by (fails_otherwise w (later ++ x ∷ before)) refl e (λ f. otherwise_first later x before why none failure f)
    where
      there : is_some (first_failure w (later ++ x ∷ before)) ≡ true
      there = failure_there w (later ++ x ∷ before) x (has_middle later x before) (ap (λ (z : Option Cause). is_some z) failure)

      by : (b : Bool) → fails_otherwise w (later ++ x ∷ before) ≡ b → (b || (not (is_some (first_failure w (later ++ x ∷ before))) && is_otherwise w y)) ≡ true
          → (fails_otherwise w (later ++ x ∷ before) ≡ true → is_otherwise w x ≡ true) → is_otherwise w x ≡ true
      by true f e rest = rest f
      by false f e rest = no (sym (and_parts_not (is_some (first_failure w (later ++ x ∷ before))) (is_otherwise w y) e).0 ∙ there)

-- ---- what its outcome says

-- a cause that is no change of the source
abbrev Tells : Option Task → Cause → Type 0
Tells task why = tells_file_failed task (Some (outcome.Failed why)) ≡ true

tells_memory : (task : Option Task) (why : Cause) → is_memory (Some why) ≡ true → Tells task why
tells_memory task cause.Memory e = refl
tells_memory task (cause.Service o code message) e = no e
tells_memory task (cause.Lost o reason) e = no e
tells_memory task cause.Changed e = no e
tells_memory task (cause.BadReply o) e = no e
tells_memory task (cause.Files of_call) e = no e
tells_memory task (cause.Blocked length) e = no e
tells_memory task (cause.Cancelled reason) e = no e

-- only an upload reads a file
reads_upload : (k : Kind) (m : ℕ) → IsCallFor k (act.Read m) → is_upload_kind k ≡ true
reads_upload kind.Upload m f = refl
reads_upload k m f = absurd f

module _ (w : Work) (task : Task) (kind_is : w.of_kind ≡ task.kind) where
  of_read : (h : History) → IsHistory w h → (a : Act) (r : FileCame) (why : Cause) → Has h (Returned a r) → MayCome a r → r ≡ file.Short → Some cause.Changed ≡ Some why → Tells (Some task) why
  of_read h is (act.Read m) r why known may short e =
      subst (Tells (Some task)) (some_is cause.Changed why e) (subst (λ (k : Kind). is_upload_kind k ≡ true) kind_is
      (reads_upload w.of_kind m (call_for w h is (act.Read m) (returned_begun w h is (act.Read m) r known) tt refl)))
  of_read h is (act.Send o k) r why known may short e = absurd (subst (MayCome (act.Send o k)) short may)
  of_read h is act.Assemble r why known may short e = absurd (subst (MayCome act.Assemble) short may)
  of_read h is (act.Place m) r why known may short e = absurd (subst (MayCome (act.Place m)) short may)
  of_read h is act.Rename r why known may short e = absurd (subst (MayCome act.Rename) short may)
  of_read h is act.DropTemp r why known may short e = absurd (subst (MayCome act.DropTemp) short may)
  of_read h is act.Remove r why known may short e = absurd (subst (MayCome act.Remove) short may)
  of_read h is act.Stamp r why known may short e = absurd (subst (MayCome act.Stamp) short may)

  by_result : (called : Act) (r : FileCame) (why : Cause) → (r ≡ file.Short → Some cause.Changed ≡ Some why → Tells (Some task) why) → result_cause called r ≡ Some why → Tells (Some task) why
  by_result called file.Fine why changed e = absurd (none_is_some why e)
  by_result called file.Short why changed e = changed refl e
  by_result called (file.Fault fault.Failed) why changed e = subst (Tells (Some task)) (some_is (cause.Files (call_of called)) why e) refl
  by_result called (file.Fault (fault.Blocked length)) why changed e = subst (Tells (Some task)) (some_is (cause.Blocked length) why e) refl
  by_result called (file.Fault fault.Memory) why changed e = subst (Tells (Some task)) (some_is cause.Memory why e) refl

  -- the failure of a call on files
  by_call : (h : History) → IsHistory w h → (a : Act) (r : FileCame) (why : Cause) → Has h (Returned a r) → MayCome a r → file_cause a r ≡ Some why → Tells (Some task) why
  by_call h is act.Stamp r why known may e = absurd (none_is_some why e)
  by_call h is act.DropTemp r why known may e = absurd (none_is_some why e)
  by_call h is (act.Send o k) r why known may e = by_result (act.Send o k) r why (of_read h is (act.Send o k) r why known may) e
  by_call h is (act.Read m) r why known may e = by_result (act.Read m) r why (of_read h is (act.Read m) r why known may) e
  by_call h is act.Assemble r why known may e = by_result act.Assemble r why (of_read h is act.Assemble r why known may) e
  by_call h is (act.Place m) r why known may e = by_result (act.Place m) r why (of_read h is (act.Place m) r why known may) e
  by_call h is act.Rename r why known may e = by_result act.Rename r why (of_read h is act.Rename r why known may) e
  by_call h is act.Remove r why known may e = by_result act.Remove r why (of_read h is act.Remove r why known may) e

  by_event : (h : History) → IsHistory w h → (later : History) (x : Happening) (before : History) (why : Cause) → h ≡ later ++ x ∷ before → is_otherwise w x ≡ true → failure_by w x ≡ Some why → Tells (Some task) why
  by_event h is later (Came c) before why at so e =
      let two = and_parts_not (is_cut_short w c) (is_memory (carried_cause w c)) so in
      tells_memory (Some task) why (subst (λ (y : Option Cause). is_memory y ≡ true) (sym (skipped (is_cut_short w c) None (carried_cause w c) two.0) ∙ e) two.1)
  by_event h is later (Returned a r) before why at so e =
      by_call h is a r why (subst (λ (z : History). Has z (Returned a r)) (sym at) (has_middle later (Returned a r) before)) (earlier w later (Returned a r ∷ before) (subst (IsHistory w) at is)).0.2 e
  by_event h is later (Gave a) before why at so e = no so
  by_event h is later (Cancelled reason) before why at so e = no so
  by_event h is later (Taken o k) before why at so e = no so

  -- a first failure by a call on files, or for want of memory
  pub first_tells : (h : History) → IsHistory w h → (why : Cause) → fails_otherwise w h ≡ true → first_failure w h ≡ Some why → Tells (Some task) why
  first_tells h is why so e =
      let f = fails_first w h why e in
      by_event h is f.later f.event f.before why f.is
      (otherwise_first w f.later f.event f.before why f.none f.failure (subst (λ (z : History). fails_otherwise w z ≡ true) f.is so)) f.failure

  -- the cause of what ended so
  stop_tells : (h : History) → IsHistory w h → (why : Cause) → fails_otherwise w h ≡ true → stop_cause w h ≡ Some why → Tells (Some task) why
  stop_tells h is why so e = by (wanted_memory w h) (first_failure w h) refl e
    where
      some : is_some (first_failure w h) ≡ true
      some = none_otherwise w h so

      by : (m : Bool) (x : Option Cause) → first_failure w h ≡ x → unless_memory m (option_or x (cancel_cause (first_reason h))) ≡ Some why → Tells (Some task) why
      by true x f e = subst (Tells (Some task)) (some_is cause.Memory why e) refl
      by false (Some x) f e = first_tells h is why so (f ∙ e)
      by false None f e = no (sym (ap (λ (y : Option Cause). is_some y) f) ∙ some)

  failed_why : (x : Option Cause) (why : Cause) → failed_for x ≡ Some (outcome.Failed why) → x ≡ Some why
  failed_why None why e = absurd (none_is_some (outcome.Failed why) e)
  failed_why (Some y) why e = ap Some (same y why (some_is (outcome.Failed y) (outcome.Failed why) e))
    where
      same : (y z : Cause) → outcome.Failed y ≡ outcome.Failed z → y ≡ z
      same y z f = cc

  no_failed : (why : Cause) → (outcome.Done ≡ outcome.Failed why → ⊥) × ((y : Option Cause) → unknown_for y ≡ Some (outcome.Failed why) → ⊥) × ((y : Option Cause) → copied_for y ≡ Some (outcome.Failed why) → ⊥)
  no_failed why = ((λ e. cc), unknown, copied)
    where
      unknown : (y : Option Cause) → unknown_for y ≡ Some (outcome.Failed why) → ⊥
      unknown None e = none_is_some (outcome.Failed why) e
      unknown (Some x) e = clash (some_is (outcome.Unknown x) (outcome.Failed why) e)
        where
          clash : outcome.Unknown x ≡ outcome.Failed why → ⊥
          clash f = cc

      copied : (y : Option Cause) → copied_for y ≡ Some (outcome.Failed why) → ⊥
      copied None e = none_is_some (outcome.Failed why) e
      copied (Some x) e = clash (some_is (outcome.Copied x) (outcome.Failed why) e)
        where
          clash : outcome.Copied x ≡ outcome.Failed why → ⊥
          clash f = cc

  ended_failed : (h : History) (why : Cause) → how_ended w h ≡ Some (outcome.Failed why) → stop_cause w h ≡ Some why
  ended_failed h why e = by (is_whole w h) (is_left_open w h) (is_decided_in w h) e
    where
      by : (whole left decided : Bool) → (if whole then Some outcome.Done else if left then unknown_for (open_cause w h) else if decided then copied_for (stop_cause w h) else failed_for (stop_cause w h)) ≡ Some (outcome.Failed why)
          → stop_cause w h ≡ Some why
      by true left decided e = absurd ((no_failed why).0 (some_is outcome.Done (outcome.Failed why) e))
      by false true decided e = absurd ((no_failed why).1 (open_cause w h) e)
      by false false true e = absurd ((no_failed why).2 (stop_cause w h) e)
      by false false false e = failed_why (stop_cause w h) why e

  -- what came behind the end is no failure
  idle_not : (x : Happening) → IsIdle x → is_otherwise w x ≡ false
  idle_not (Cancelled reason) i = refl
  idle_not (Taken o k) i = refl
  idle_not x i = absurd i

  otherwise_then : (later h : History) → ((x : Happening) → Has later x → IsIdle x) → fails_otherwise w (later ++ h) ≡ true → fails_otherwise w h ≡ true
  otherwise_then [] h idle e = e
  otherwise_then (x ∷ later) h idle e = by (fails_otherwise w (later ++ h)) refl e (λ f. otherwise_then later h (λ y known. idle y (inr known)) f)
    where
      by : (b : Bool) → fails_otherwise w (later ++ h) ≡ b → (b || (not (is_some (first_failure w (later ++ h))) && is_otherwise w x)) ≡ true
          → (fails_otherwise w (later ++ h) ≡ true → fails_otherwise w h ≡ true) → fails_otherwise w h ≡ true
      by true f e rest = rest f
      by false f e rest = no (sym (idle_not x (idle x (inl refl))) ∙ (and_parts_not (is_some (first_failure w (later ++ h))) (is_otherwise w x) e).1)

  pub failed_tells : HasPiece w → (h : History) → IsHistory w h → (why : Cause) → outcome_of w h ≡ Some (outcome.Failed why) → fails_otherwise w h ≡ true → Tells (Some task) why
  failed_tells piece h is why e so =
      let ends = ended_at w piece h (outcome.Failed why) is e in
      let at : IsHistory w ends.then_ = earlier w ends.later ends.then_ (subst (IsHistory w) ends.is is) in
      stop_tells ends.then_ at why (otherwise_then ends.later ends.then_ ends.idle (subst (λ (z : History). fails_otherwise w z ≡ true) ends.is so)) (ended_failed ends.then_ why ends.so)
