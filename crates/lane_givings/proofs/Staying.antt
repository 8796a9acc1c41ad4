-- What happens to others leaves a job that is out as it is.
use Rattle.std.proofs.Common.{◌≡◌, ◌∙◌, ◌==◌, ◌&&◌, ℕ, Bool, true, false, ◌∷◌, Option, Some, None, refl, sym, subst, ap}
use Rattle.std.proofs.Common.{is_some}
use Rattle.std.proofs.Common.{slice_get, if◌then◌else◌}
use Rattle.std.proofs.lemmas.Bool.{and_parts, eqb-true}
use Rattle.job_terms.proofs.SameJobs.{job_is}
use Rattle.job_terms.specs.Ops.{is_op, op_number}
use Rattle.jobs.specs.Endings.{SeenCarried}
use Rattle.manager_moves.proofs.CountLemmas.{no}
use Rattle.manager_moves.proofs.HoldLemmas.{skip, same_number}
use Rattle.manager_moves.proofs.ShareLaws.{shares_are_histories}
use Rattle.manager_moves.specs.Laws.{IsRun}
use Rattle.manager_moves.specs.Moves.{next_move}
use Rattle.manager_moves.specs.Runs.{Back, Called, Event, Events, Lined, Made, Sent, Shared, Stopped, is_task, share}
use Rattle.manager_moves.specs.Runs.{with_taken}
use Rattle.run_progress.proofs.OutJobs.{called_same, same_job, taken_same}
use Rattle.s3_model.specs.declared.outcomes.JobId.{JobId}
use Rattle.s3_model.specs.declared.requests.Op.{Op}
use Rattle.task_acts.specs.declared.acts.Act.{Act}
use Rattle.task_acts.specs.declared.acts.Act.TheVariants as act
use Rattle.task_acts.specs.declared.acts.Stage.{Stage}
use Rattle.task_acts.specs.declared.acts.Stage.TheVariants as at
use Rattle.task_acts.specs.declared.work.Work.{Work}
use Rattle.task_acts.specs.Failures.{is_stopped}
use Rattle.task_acts.specs.Histories.{Came, Gave, History, Returned, Taken, is_act, sent}
use Rattle.task_acts.specs.Kept.{IsHistory, kept_job, tries_before}
use Rattle.task_acts.specs.Rule.{is_named}
use Rattle.task_acts.specs.Stages.{carried_stage, given_stage, is_out, may_be_given, stage}
use Rattle.task_progress.proofs.Endings.{chosen}
use Rattle.lane_givings.specs.Givings.{act_of}

-- that job does not come back
abbrev pub IsNotBack : Event → JobId → Type 0
IsNotBack (Back lane carried) id = carried.job.id ≡ id → ⊥
IsNotBack event id = Unit {0}

-- how far the act is stays, and how many attempts were made of it
pub record IsSame (w : Work) (g h : History) (a : Act) : Type 0 where
  pub stage_is : stage w g a ≡ stage w h a
  pub tries_are : tries_before g a ≡ tries_before h a

same_if : (w : Work) (b : Bool) (g h : History) (a : Act) → (b ≡ true → IsSame w g h a)
    → IsSame w (if b then g else h) h a
same_if w true g h a same = same refl
same_if w false g h a same = record { stage_is = refl; tries_are = refl }

-- what is given is out
pub given_is_out : (how : Stage) → is_out (given_stage how) ≡ true
given_is_out at.Waiting = refl
given_is_out at.Out = refl
given_is_out at.Kept = refl
given_is_out at.Again = refl
given_is_out at.Fine = refl
given_is_out at.Failed = refl

pub act_itself : (o : Op) (k : ℕ) → is_act (act.Send o k) (act.Send o k) ≡ true
act_itself o k = both (is_op o o) (k == k) (same_number (op_number o)) (same_number k)
  where
    both : (x y : Bool) → x ≡ true → y ≡ true → (x && y) ≡ true
    both true true e f = refl
    both true false e f = f
    both false y e f = no e

-- what may be given is not out
pub not_both : (how : Stage) → may_be_given how ≡ true → is_out how ≡ true → ⊥
not_both at.Waiting may out = no out
not_both at.Kept may out = no out
not_both how may out = no may

pub taken_tries : (w : Work) (o : Op) (k : ℕ) (h : History) (a : Act)
    → tries_before (with_taken w o k h) a ≡ tries_before h a
taken_tries w o k h a = by (is_some (kept_job w h (act.Send o k)))
  where
    by : (b : Bool) → tries_before (if b then Taken o k ∷ h else h) a ≡ tries_before h a
    by true = refl
    by false = refl

-- a job that is given next may be given
pub next_may_be_given : (s : Shared) (events : Events) (task : ℕ) (o : Op) (k lane : ℕ) (w : Work)
    → IsRun s (Sent task o k lane ∷ events) → slice_get s.works task ≡ Some w
    → may_be_given (stage w (share w task events) (act.Send o k)) ≡ true
next_may_be_given s events task o k lane w run there =
    let h : History = share w task events in
    let holds : IsHistory w (Gave (act.Send o k) ∷ with_taken w o k h) =
    subst (IsHistory w) (chosen (task == task) (Gave (act.Send o k) ∷ with_taken w o k h) h (same_number task))
    (shares_are_histories s (Sent task o k lane ∷ events) task w there run) in
    let may = (and_parts (may_be_given (stage w (with_taken w o k h) (act.Send o k)))
    (is_named w (stage w (with_taken w o k h)) (is_stopped w (with_taken w o k h)) (act.Send o k)) holds.0).0 in
    subst (λ (x : Stage). may_be_given x ≡ true) (taken_same w o k h (act.Send o k)) may

-- a job of that task and that act is that job
pub same_id : (n : ℕ) (id : JobId) (c : SeenCarried) → id.task ≡ Some n → is_task n c.job.id.task ≡ true
    → is_act (act_of id) (sent c) ≡ true → c.job.id ≡ id
same_id n id c is_task_of own is =
    let same = same_job id.op c.job.id.op id.number c.job.id.number is in
    job_is c.job.id id (its c.job.id.task own ∙ sym is_task_of) (sym same.0) (sym same.1)
  where
    its : (task : Option ℕ) → is_task n task ≡ true → task ≡ Some n
    its None e = no e
    its (Some m) e = ap (λ (i : ℕ). Some i) (eqb-true m n e)

module _ (s : Shared) (before : Events) (n : ℕ) (w : Work) (there : slice_get s.works n ≡ Some w) (id : JobId)
    (is_task_of : id.task ≡ Some n) (out : is_out (stage w (share w n before) (act_of id)) ≡ true) where
  abbrev h : History
  h = share w n before

  abbrev a : Act
  a = act_of id

  given_apart : (t : ℕ) (o : Op) (k lane : ℕ) → IsRun s (Sent t o k lane ∷ before) → (t == n) ≡ true
      → is_act a (act.Send o k) ≡ true → ⊥
  given_apart t o k lane run own is =
      let same = same_job id.op o id.number k is in
      let task_is : t ≡ n = eqb-true t n own in
      not_both (stage w h a)
      (subst (λ (p : Op). may_be_given (stage w h (act.Send p id.number)) ≡ true) (sym same.0)
      (subst (λ (m : ℕ). may_be_given (stage w h (act.Send o m)) ≡ true) (sym same.1)
      (subst (λ (i : ℕ). may_be_given (stage w (share w i before) (act.Send o k)) ≡ true) task_is
      (next_may_be_given s before t o k lane w run (ap (slice_get s.works) task_is ∙ there))))) out

  gave_same : (o : Op) (k : ℕ) (b : Bool) → is_act a (act.Send o k) ≡ b → (b ≡ true → ⊥)
      → IsSame w (Gave (act.Send o k) ∷ with_taken w o k h) h a
  gave_same o k true e apart = absurd (apart refl)
  gave_same o k false e apart = record {
    stage_is =
        skip (is_act a (act.Send o k)) (given_stage (stage w (with_taken w o k h) (act.Send o k)))
        (stage w (with_taken w o k h) a) e ∙ taken_same w o k h a;
    tries_are = taken_tries w o k h a;
  }

  came_same : (c : SeenCarried) (b : Bool) → is_act a (sent c) ≡ b → (b ≡ true → ⊥) → IsSame w (Came c ∷ h) h a
  came_same c true e apart = absurd (apart refl)
  came_same c false e apart = record {
    stage_is = skip (is_act a (sent c)) (carried_stage w (is_stopped w h) c) (stage w h a) e;
    tries_are = skip (is_act a (sent c)) _ (tries_before h a) e;
  }

  pub stays : (e : Event) → IsRun s (e ∷ before) → IsNotBack e id → IsSame w (share w n (e ∷ before)) h a
  stays (Made fits) run apart = record { stage_is = refl; tries_are = refl }
  stays Lined run apart = record { stage_is = refl; tries_are = refl }
  stays (Stopped reason) run apart = record { stage_is = refl; tries_are = refl }
  stays (Called t called r) run apart = same_if w (t == n) (Returned called r ∷ Gave called ∷ h) h a
      (λ own. record {
        stage_is = called_same w s before t called r (next_move s before) run.0.0 h id.op id.number;
        tries_are = refl;
      })
  stays (Sent t o k lane) run apart = same_if w (t == n) (Gave (act.Send o k) ∷ with_taken w o k h) h a
      (λ own. gave_same o k (is_act a (act.Send o k)) refl (given_apart t o k lane run own))
  stays (Back lane c) run apart = same_if w (is_task n c.job.id.task) (Came c ∷ h) h a
      (λ own. came_same c (is_act a (sent c)) refl
      (λ is. apart (same_id n id c is_task_of own is)))
