-- A task for which memory ran out has an outcome that says so.
use Rattle.std.proofs.Common.{◌≡◌, ◌∙◌, ◌||◌, ◌⊎◌, Bool, true, false, [], ◌∷◌, Option, Some, None, refl, sym, subst, ap, inl, inr, not}
use Rattle.std.proofs.lemmas.Bool.{and_parts}
use Rattle.std.specs.Prelude.{if◌then◌else◌, is_some}
use Rattle.job_terms.specs.Ops.{deciding}
use Rattle.run_promise.specs.Settled as settled
use Rattle.run_promise.specs.Settled.{cause_of}
use Rattle.s3_model.specs.declared.outcomes.Cause.{Cause}
use Rattle.s3_model.specs.declared.outcomes.Cause.TheVariants as cause
use Rattle.s3_model.specs.declared.outcomes.Outcome.{Outcome}
use Rattle.s3_model.specs.declared.outcomes.Outcome.TheVariants as outcome
use Rattle.s3_model.specs.declared.tasks.Kind.{Kind}
use Rattle.s3_model.specs.declared.tasks.Kind.TheVariants as kind
use Rattle.shared_lemmas.proofs.Clashes.{some_is}
use Rattle.shared_lemmas.proofs.Members.{Has}
use Rattle.task_acts.specs.declared.acts.Act.{Act}
use Rattle.task_acts.specs.declared.acts.Act.TheVariants as act
use Rattle.task_acts.specs.declared.acts.Stage.{Stage}
use Rattle.task_acts.specs.declared.acts.Stage.TheVariants as at
use Rattle.task_acts.specs.declared.work.Work.{Work}
use Rattle.task_acts.specs.Ends.{copied_for, failed_for, how_ended, is_left_open, is_whole, last_cause, open_cause, outcome_of, removal, stop_cause, unknown_for, unless_memory}
use Rattle.task_acts.specs.Failures.{carried_cause, failure_by, file_cause, is_cut_short, is_memory, wanted_memory}
use Rattle.task_acts.specs.Histories.{Came, Cancelled, Gave, Happening, History, Returned, Taken, sent}
use Rattle.task_acts.specs.Kept.{IsHistory}
use Rattle.task_acts.specs.Rule.{is_decided_in, is_done_in}
use Rattle.task_acts.specs.Stages.{has_done, stage}
use Rattle.task_outcomes.proofs.Acts.{decider_done, failed_removal, removes_moved}
use Rattle.task_outcomes.proofs.Settling.{IsIdle, back_then, ended_at}
use Rattle.task_progress.specs.Progress.{HasPiece}
use Rattle.task_progress.proofs.Begun.{has_begun}
use Rattle.task_progress.proofs.Endings.{no}
use Rattle.task_progress.proofs.Progress.{IsCounted}
use Rattle.task_schedule.proofs.Deciders.{call_failed, decider, decider_of, job_failed}
use Rattle.task_schedule.proofs.Failing.{counted_call}
use Rattle.task_schedule.proofs.Standing.{earlier}

-- ---- where it ran out

pub record Forgets (w : Work) (h : History) : Type 0 where
  pub event : Happening
  pub known : Has h event
  pub memory : is_memory (failure_by w event) ≡ true

pub memory_some : (why : Option Cause) → is_memory why ≡ true → is_some why ≡ true
memory_some None e = e
memory_some (Some why) e = refl

pub forgets : (w : Work) (h : History) → wanted_memory w h ≡ true → Forgets w h
forgets w [] e = no e
forgets w (x ∷ h) e = by (wanted_memory w h) (is_memory (failure_by w x)) refl refl (λ f. forgets w h f) e
  where
    later : Forgets w h → Forgets w (x ∷ h)
    later f = record { event = f.event; known = inr f.known; memory = f.memory }

    by : (a b : Bool) → wanted_memory w h ≡ a → is_memory (failure_by w x) ≡ b → (wanted_memory w h ≡ true → Forgets w h) → (a || b) ≡ true → Forgets w (x ∷ h)
    by true b f g rest e = later (rest f)
    by false true f g rest e = record { event = x; known = inl refl; memory = g }
    by false false f g rest e = no e

pub forgotten : (w : Work) (h : History) (x : Happening) → Has h x → is_memory (failure_by w x) ≡ true → wanted_memory w h ≡ true
forgotten w [] x known e = absurd known
forgotten w (y ∷ h) x known e = by known (λ f. forgotten w h x f e)
  where
    first : (a b : Bool) → (a ≡ true) ⊎ (b ≡ true) → (a || b) ≡ true
    first true b f = refl
    first false b (inl f) = no f
    first false b (inr f) = f

    by : Has (y ∷ h) x → (Has h x → wanted_memory w h ≡ true) → (wanted_memory w h || is_memory (failure_by w y)) ≡ true
    by (inl same) rest = first (wanted_memory w h) (is_memory (failure_by w y)) (inr (subst (λ (z : Happening). is_memory (failure_by w z) ≡ true) (sym same) e))
    by (inr there) rest = first (wanted_memory w h) (is_memory (failure_by w y)) (inl (rest there))

busy : (w : Work) (x : Happening) → is_memory (failure_by w x) ≡ true → IsIdle x → ⊥
busy w (Came c) e i = i
busy w (Returned a r) e i = i
busy w (Gave a) e i = i
busy w (Cancelled reason) e i = no e
busy w (Taken o k) e i = no e

-- ---- what failed by it

pub record FailedAct (w : Work) (h : History) : Type 0 where
  pub of_act : Act
  pub counted : IsCounted of_act
  pub failed : stage w h of_act ≡ at.Failed

failed_by : (w : Work) (h : History) → IsHistory w h → (x : Happening) → Has h x → is_memory (failure_by w x) ≡ true → FailedAct w h
failed_by w h is (Came c) known e = by (is_cut_short w c) refl e
  where
    by : (cut : Bool) → is_cut_short w c ≡ cut → is_memory (if cut then None else carried_cause w c) ≡ true → FailedAct w h
    by true f m = no m
    by false f m = record { of_act = sent c; counted = tt; failed = job_failed w h is c known f (memory_some (carried_cause w c) m) }
failed_by w h is (Returned a r) known e =
    let some = memory_some (file_cause a r) e in
    record { of_act = a; counted = counted_call a r some; failed = call_failed w h is a r known some }
failed_by w h is (Gave a) known e = no e
failed_by w h is (Cancelled reason) known e = no e
failed_by w h is (Taken o k) known e = no e

failed_not_done : (how : Stage) → how ≡ at.Failed → has_done how ≡ true → false ≡ true
failed_not_done how e d = subst (λ (x : Stage). has_done x ≡ true) e d

moved : (moves gone : Bool) → (not moves || gone) ≡ true → (moves ≡ true → gone ≡ true)
moved true gone e f = e
moved false gone e f = no f

module _ (w : Work) (h : History) (is : IsHistory w h) (piece : HasPiece w) (ran_out : wanted_memory w h ≡ true) where
  failed_act : FailedAct w h
  failed_act = let f = forgets w h ran_out in failed_by w h is f.event f.known f.memory

  -- a task that is whole did without it
  not_whole : is_whole w h ≡ true → ⊥
  not_whole whole = by w.of_kind refl
    where
      two : (is_decided_in w h ≡ true) × ((not w.moves || is_done_in w h (removal w.of_kind)) ≡ true)
      two = and_parts (is_decided_in w h) (not w.moves || is_done_in w h (removal w.of_kind)) whole

      removal_failed : stage w h (removal w.of_kind) ≡ at.Failed
      removal_failed = subst (λ (a : Act). stage w h a ≡ at.Failed) (failed_removal w h is two.0 piece failed_act.of_act failed_act.counted failed_act.failed) failed_act.failed

      begun : has_begun (stage w h (removal w.of_kind)) ≡ true
      begun = subst (λ (how : Stage). has_begun how ≡ true) (sym removal_failed) refl

      of_move : w.moves ≡ true → ⊥
      of_move moves = no (failed_not_done (stage w h (removal w.of_kind)) removal_failed (moved w.moves (is_done_in w h (removal w.of_kind)) two.1 moves))

      not_decided : removal w.of_kind ≡ decider w → ⊥
      not_decided same = no (failed_not_done (stage w h (removal w.of_kind)) removal_failed (subst (λ (a : Act). has_done (stage w h a) ≡ true) (sym same) (decider_done w h is two.0)))

      clash_object : (k : Kind) → w.of_kind ≡ k → (k ≡ kind.RemoveObject → ⊥) → (k ≡ kind.RemoveFile → ⊥) → ⊥
      clash_object k so a b = of_move (removes_moved w h is (λ e. a (sym so ∙ e)) (λ e. b (sym so ∙ e)) begun)

      by : (k : Kind) → w.of_kind ≡ k → ⊥
      by kind.Upload so = clash_object kind.Upload so (λ e. cc) (λ e. cc)
      by kind.Download so = clash_object kind.Download so (λ e. cc) (λ e. cc)
      by kind.Copy so = clash_object kind.Copy so (λ e. cc) (λ e. cc)
      by kind.RemoveObject so = not_decided (ap removal so ∙ sym (ap (decider_of w) so ∙ ap (λ (k : Kind). act.Send (deciding k w.small) 0) so))
      by kind.RemoveFile so = not_decided (ap removal so ∙ sym (ap (decider_of w) so))

  -- so its outcome names it
  named : (how : Outcome) → how_ended w h ≡ Some how → settled.is_memory (cause_of (Some how)) ≡ true
  named how e = by (is_whole w h) (is_left_open w h) (is_decided_in w h) refl refl e
    where
      remembered : (why : Option Cause) → unless_memory (wanted_memory w h) why ≡ Some cause.Memory
      remembered why = ap (λ (b : Bool). unless_memory b why) ran_out

      opened : (x : Option Cause) → x ≡ Some cause.Memory → unknown_for x ≡ Some how → settled.is_memory (cause_of (Some how)) ≡ true
      opened x is_x f = subst (λ (y : Outcome). settled.is_memory (cause_of (Some y)) ≡ true) (some_is (outcome.Unknown cause.Memory) how (ap unknown_for (sym is_x) ∙ f)) refl

      copied : (x : Option Cause) → x ≡ Some cause.Memory → copied_for x ≡ Some how → settled.is_memory (cause_of (Some how)) ≡ true
      copied x is_x f = subst (λ (y : Outcome). settled.is_memory (cause_of (Some y)) ≡ true) (some_is (outcome.Copied cause.Memory) how (ap copied_for (sym is_x) ∙ f)) refl

      failed : (x : Option Cause) → x ≡ Some cause.Memory → failed_for x ≡ Some how → settled.is_memory (cause_of (Some how)) ≡ true
      failed x is_x f = subst (λ (y : Outcome). settled.is_memory (cause_of (Some y)) ≡ true) (some_is (outcome.Failed cause.Memory) how (ap failed_for (sym is_x) ∙ f)) refl

      by : (whole left decided : Bool) → is_whole w h ≡ whole → is_left_open w h ≡ left
          → (if whole then Some outcome.Done else if left then unknown_for (open_cause w h) else if decided then copied_for (stop_cause w h) else failed_for (stop_cause w h)) ≡ Some how
          → settled.is_memory (cause_of (Some how)) ≡ true
      by true left decided f g e = absurd (not_whole f)
      by false true decided f g e = opened (open_cause w h) (remembered (last_cause w h)) e
      by false false true f g e = copied (stop_cause w h) (remembered _) e
      by false false false f g e = failed (stop_cause w h) (remembered _) e

-- where memory ran out for a job or a call of a task, the outcome of the task says so
pub memory_told : (w : Work) (h : History) (how : Outcome) → HasPiece w → IsHistory w h → wanted_memory w h ≡ true → outcome_of w h ≡ Some how → settled.is_memory (cause_of (Some how)) ≡ true
memory_told w h how piece is ran_out e =
    let ends = ended_at w piece h how is e in
    let f = forgets w h ran_out in
    let then_known = back_then w h how ends f.event (busy w f.event f.memory) f.known in
    named w ends.then_ (earlier w ends.later ends.then_ (subst (IsHistory w) ends.is is)) piece (forgotten w ends.then_ f.event then_known f.memory) how ends.so
