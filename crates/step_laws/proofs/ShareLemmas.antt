-- The shares of a task's jobs follow its history.
use Rattle.std.proofs.Common.{◌≡◌, ◌∙◌, ◌∷◌, ℕ, Bool, true, false, List, Option, None, refl, sym, subst, ap, get_or}
use Rattle.std.proofs.Common.{set}
use Rattle.std.proofs.Common.{if◌then◌else◌, IsSome}
use Rattle.std.proofs.lemmas.Bool.{and_parts}
use Rattle.std.proofs.lemmas.List.{get_or-set_other}
use Rattle.kept_jobs.specs.Slots.{HasSlot, slot}
use Rattle.manager_moves.proofs.CountLemmas.{no}
use Rattle.manager_moves.specs.Parts.{is_kept}
use Rattle.s3_model.specs.declared.requests.Op.{Op}
use Rattle.s3_model.specs.declared.tasks.Task.{Task}
use Rattle.step_jobs.specs.Shares.{HasShare, SeenShare, SeenSteps}
use Rattle.task_acts.specs.declared.acts.Act.{Act}
use Rattle.task_acts.specs.declared.acts.Act.TheVariants as act
use Rattle.task_acts.specs.declared.acts.Stage.{Stage}
use Rattle.task_acts.specs.declared.acts.Stage.TheVariants as at
use Rattle.task_acts.specs.declared.work.Work.{Work}
use Rattle.task_acts.specs.Failures.{carried_cause, is_cut_short, is_fine, is_stopped}
use Rattle.task_acts.specs.Histories.{Came, Cancelled, Gave, Happening, History, Returned, Taken, is_act, sent}
use Rattle.task_acts.specs.Rule.{is_named}
use Rattle.task_acts.specs.Stages.{carried_stage, file_stage, given_stage, may_be_given, stage}
use Rattle.std.specs.Prelude.{is_some}
use Rattle.step_laws.specs.Following.{GivingTakesShare, HoldsShares, IsTakenFor, ReadyJobsHaveShares, SharesBegin}
use Rattle.step_laws.specs.Following.{SharesStay}
use Rattle.step_laws.proofs.Places.{ready_has_slot, same_job}

-- ---- what waits, waited before

abbrev waits : Stage → Bool
waits at.Waiting = true
waits how = false

is_waiting : (how : Stage) → waits how ≡ true → how ≡ at.Waiting
is_waiting at.Waiting e = refl
is_waiting how e = no e

given_is_not : (how : Stage) → waits (given_stage how) ≡ true → false ≡ true
given_is_not at.Waiting e = e
given_is_not at.Out e = e
given_is_not at.Kept e = e
given_is_not at.Again e = e
given_is_not at.Fine e = e
given_is_not at.Failed e = e

back_is_not : (cut stopped failed : Bool)
    → waits (if cut then (if stopped then at.Failed else at.Kept) else if failed then at.Failed else at.Fine) ≡ true
    → false ≡ true
back_is_not true true failed e = e
back_is_not true false failed e = e
back_is_not false stopped true e = e
back_is_not false stopped false e = e

file_is_not : (fine : Bool) → waits (if fine then at.Fine else at.Failed) ≡ true → false ≡ true
file_is_not true e = e
file_is_not false e = e

before : (b : Bool) (now was : Stage) → (waits now ≡ true → false ≡ true) → waits (if b then now else was) ≡ true
    → waits was ≡ true
before true now was never e = no (never e)
before false now was never e = e

module _ (w : Work) (h : History) (a : Act) where
  waited : (event : Happening) → waits (stage w (event ∷ h) a) ≡ true → waits (stage w h a) ≡ true
  waited (Gave g) e =
      before (is_act a g) (given_stage (stage w h g)) (stage w h a) (given_is_not (stage w h g)) e
  waited (Came c) e =
      before (is_act a (sent c)) (carried_stage w (is_stopped w h) c) (stage w h a)
      (back_is_not (is_cut_short w c) (is_stopped w h) (is_some (carried_cause w c))) e
  waited (Returned called result) e =
      before (is_act a called) (file_stage result) (stage w h a) (file_is_not (is_fine result)) e
  waited (Cancelled reason) e = e
  waited (Taken o n) e = e

  pub waited_so : (event : Happening) → stage w (event ∷ h) a ≡ at.Waiting → stage w h a ≡ at.Waiting
  waited_so event e = is_waiting (stage w h a) (waited event (ap waits e))

-- ---- the laws

pub shares_begin : SharesBegin
shares_begin task w j task_is work_is all = record {
  task_is = task_is;
  work_is = work_is;
  shares = λ o n inside waiting. all o n (subst (λ (v : Work). HasSlot v o n) (sym work_is) inside);
}

pub shares_stay : SharesStay
shares_stay task w h event j holds = record {
  task_is = holds.task_is;
  work_is = holds.work_is;
  shares = λ o n inside waiting. holds.shares o n inside (waited_so w h (act.Send o n) event waiting);
}

module _ (task : Task) (w : Work) (h : History) (j new : SeenSteps) (o : Op) (n : ℕ) (inside : HasSlot w o n)
    (holds : HoldsShares task w h j) (is : IsTakenFor o n j new) where
  not_its : (b : Bool) → b ≡ false → b ≡ true → ⊥
  not_its true f t = no (sym f)
  not_its false f t = no t

  other : (p : Op) (m : ℕ) → is_act (act.Send p m) (act.Send o n) ≡ false → HasShare j p m → HasShare new p m
  other p m apart has =
      let its : slot j.work o n ≡ slot w o n = ap (λ (v : Work). slot v o n) holds.work_is in
      let here : slot j.work p m ≡ slot w p m = ap (λ (v : Work). slot v p m) holds.work_is in
      let place : slot new.work p m ≡ slot j.work p m = ap (λ (v : Work). slot v p m) is.work in
      subst (λ (x : Option SeenShare). IsSome x)
      (sym (ap (λ (shares : List (Option SeenShare)). get_or shares (slot new.work p m) None) is.shares
      ∙ ap (λ (i : ℕ). get_or (set j.shares (slot j.work o n) None) i None) place
      ∙ get_or-set_other j.shares (slot j.work o n) (slot j.work p m) None None
      (λ same. not_its (is_act (act.Send p m) (act.Send o n)) apart
      (same_job w o n inside p m (sym here ∙ same ∙ its))))) has

  taken : (p : Op) (m : ℕ) (b : Bool) → is_act (act.Send p m) (act.Send o n) ≡ b → HasSlot w p m
      → (if b then given_stage (stage w h (act.Send o n)) else stage w h (act.Send p m)) ≡ at.Waiting → HasShare new p m
  taken p m true e there waiting = no (given_is_not (stage w h (act.Send o n)) (ap waits waiting))
  taken p m false e there waiting = other p m e (holds.shares p m there waiting)

  pub given_share : HoldsShares task w (Gave (act.Send o n) ∷ h) new
  given_share = record {
    task_is = is.task ∙ holds.task_is;
    work_is = is.work ∙ holds.work_is;
    shares = λ p m there waiting. taken p m (is_act (act.Send p m) (act.Send o n)) refl there waiting;
  }

pub giving_takes_share : GivingTakesShare
giving_takes_share task w h j new o n inside holds is = given_share task w h j new o n inside holds is

waiting_then : (how : Stage) → may_be_given how ≡ true → is_kept how ≡ false → how ≡ at.Waiting
waiting_then at.Waiting e f = refl
waiting_then at.Kept e f = no (sym f)
waiting_then at.Out e f = no e
waiting_then at.Again e f = no e
waiting_then at.Fine e f = no e
waiting_then at.Failed e f = no e

pub ready_jobs_have_shares : ReadyJobsHaveShares
ready_jobs_have_shares task w h j o n is holds ready fresh =
    let inside = ready_has_slot w h is o n ready in
    let may = and_parts (may_be_given (stage w h (act.Send o n)))
    (is_named w (stage w h) (is_stopped w h) (act.Send o n)) ready in (
      inside,
      holds.shares o n inside (waiting_then (stage w h (act.Send o n)) may.0 fresh),
    )
