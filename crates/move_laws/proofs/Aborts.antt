-- An Abort is never kept to be given again: it has no cell that could cut it short.
use Rattle.std.proofs.Common.{◌≡◌, ◌∙◌, ◌&&◌, [], ◌∷◌, ℕ, Bool, true, false, Option, Some, None, refl, sym, ap}
use Rattle.std.proofs.Common.{is_some, length, not, if◌then◌else◌}
use Rattle.alike_histories.specs.Alike.{told, told_cancel}
use Rattle.jobs.specs.Jobs.{SeenJob}
use Rattle.manager_moves.proofs.CountLemmas.{no}
use Rattle.run_progress.proofs.OutJobs.{same_job}
use Rattle.s3_model.specs.declared.outcomes.Reason.{Reason}
use Rattle.s3_model.specs.declared.requests.Op.{Op}
use Rattle.s3_model.specs.declared.requests.Op.TheVariants as op
use Rattle.task_acts.specs.declared.acts.Act.{Act}
use Rattle.task_acts.specs.declared.acts.Act.TheVariants as act
use Rattle.task_acts.specs.declared.acts.Stage.{Stage}
use Rattle.task_acts.specs.declared.work.Work.{Work}
use Rattle.task_acts.specs.Failures.{first_reason, is_stopped, is_unfinished}
use Rattle.task_acts.specs.Histories.{Came, Cancelled, Gave, History, Returned, Taken, is_act, sent}
use Rattle.task_acts.specs.Kept.{IsHistory, again, has_cell, kept_job}
use Rattle.task_acts.specs.Rule.{is_named}
use Rattle.task_acts.specs.Stages.{stage}

none_by : (b : Bool) (x : Option SeenJob) → x ≡ None → (if b then None else x) ≡ None
none_by true x e = refl
none_by false x e = e

none_if : (a b c : Bool) (job : SeenJob) → a ≡ false → (if (a && b) && c then Some job else None) ≡ None
none_if true b c job e = no (sym e)
none_if false b c job e = refl

came_by : (same a b c : Bool) (job : SeenJob) (x : Option SeenJob) → (same ≡ true → a ≡ false) → x ≡ None
    → (if same then (if (a && b) && c then Some job else None) else x) ≡ None
came_by true a b c job x uncut e = none_if a b c job (uncut refl)
came_by false a b c job x uncut e = e

module _ (w : Work) (k : ℕ) where
  abbrev abort : Act
  abort = act.Send op.Abort k

  -- no Abort that came had a cell
  abbrev pub NoCell : History → Type 0
  NoCell [] = Unit {0}
  NoCell (Came c ∷ h) = (is_act abort (sent c) ≡ true → is_some c.job.cell ≡ false) × NoCell h
  NoCell (Gave given ∷ h) = NoCell h
  NoCell (Returned called result ∷ h) = NoCell h
  NoCell (Cancelled reason ∷ h) = NoCell h
  NoCell (Taken o n ∷ h) = NoCell h

  pub has_none : (h : History) → IsHistory w h → NoCell h
  has_none [] is = tt
  has_none (Came c ∷ h) is = (
    λ same. is.0.1 ∙ ap (λ (o : Op). has_cell (stage w h (sent c)) o)
        (sym (same_job op.Abort c.job.id.op k c.job.id.number same).0),
    has_none h is.1,
  )
  has_none (Gave given ∷ h) is = has_none h is.1
  has_none (Returned called result ∷ h) is = has_none h is.1
  has_none (Cancelled reason ∷ h) is = has_none h is.1
  has_none (Taken o n ∷ h) is = has_none h is.1

  told_by : (b : Bool) (reason : Reason) (h : History) → NoCell h → NoCell (told_cancel b reason h)
  told_by true reason h none = none
  told_by false reason h none = none

  by_told : (b : Bool) (reason : Reason) (h : History) → NoCell (told_cancel b reason h) → NoCell h
  by_told true reason h none = none
  by_told false reason h none = none

  -- which depends on what is told alone
  pub none_told : (h : History) → NoCell h → NoCell (told h)
  none_told [] none = tt
  none_told (Came c ∷ h) none = (none.0, none_told h none.1)
  none_told (Gave given ∷ h) none = none_told h none
  none_told (Returned called result ∷ h) none = none_told h none
  none_told (Cancelled reason ∷ h) none =
      told_by (is_some (first_reason h)) reason (told h) (none_told h none)
  none_told (Taken o n ∷ h) none = none_told h none

  pub told_none : (h : History) → NoCell (told h) → NoCell h
  told_none [] none = tt
  told_none (Came c ∷ h) none = (none.0, told_none h none.1)
  told_none (Gave given ∷ h) none = told_none h none
  told_none (Returned called result ∷ h) none = told_none h none
  told_none (Cancelled reason ∷ h) none = told_none h (by_told (is_some (first_reason h)) reason (told h) none)
  told_none (Taken o n ∷ h) none = told_none h none

  pub never_kept : (h : History) → NoCell h → kept_job w h abort ≡ None
  never_kept [] none = refl
  never_kept (Came c ∷ h) none = came_by (is_act abort (sent c)) (is_some c.job.cell)
      (is_unfinished w.attempts (length c.tries) c.ending) (not (is_stopped w h)) (again c) (kept_job w h abort) none.0
      (never_kept h none.1)
  never_kept (Gave given ∷ h) none = none_by (is_act abort given) (kept_job w h abort) (never_kept h none)
  never_kept (Taken o n ∷ h) none = none_by (is_act abort (act.Send o n)) (kept_job w h abort) (never_kept h none)
  never_kept (Returned called result ∷ h) none = never_kept h none
  never_kept (Cancelled reason ∷ h) none = never_kept h none

-- the one job that a task gives once it has stopped is its Abort
pub stopped_aborts : (w : Work) (stage_of : Act → Stage) (o : Op) (k : ℕ)
    → is_named w stage_of true (act.Send o k) ≡ true → o ≡ op.Abort
stopped_aborts w stage_of op.Abort k e = refl
stopped_aborts w stage_of o k e = no e
