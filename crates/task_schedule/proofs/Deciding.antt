-- The marks of the deciding request of a task, in its history and in the dispatches of its run.
use Rattle.std.proofs.Common.{◌≡◌, ◌∙◌, ◌==◌, ◌&&◌, ◌++◌, ℕ, zero, suc, true, List, [], ◌∷◌, Some, refl, sym, subst, ap, arith, slice_get, map}
use Rattle.std.proofs.lemmas.Bool.{and_parts, eqb-true}
use Rattle.jobs.specs.Endings.{SeenCarried}
use Rattle.job_terms.specs.Dispatches.{Attempt, Dispatched}
use Rattle.job_terms.specs.Ops.{is_op, op_number, deciding}
use Rattle.run_promise.specs.Outcomes.{HasDeciding, IsDecidedByRequest}
use Rattle.run_promise.specs.Schedule.{Setting, is_small}
use Rattle.job_terms.specs.Jobs.{job_of}
use Rattle.s3_model.specs.Talks.{Talk}
use Rattle.s3_model.specs.declared.answers.Class.{Class}
use Rattle.s3_model.specs.declared.outcomes.Cause.{Cause}
use Rattle.s3_model.specs.declared.outcomes.JobId.{JobId}
use Rattle.s3_model.specs.declared.requests.Ask.{Ask}
use Rattle.s3_model.specs.declared.requests.Op.{Op}
use Rattle.s3_model.specs.declared.tasks.Kind.{Kind}
use Rattle.s3_model.specs.declared.tasks.Kind.TheVariants as kind
use Rattle.s3_model.specs.declared.tasks.Task.{Task}
use Rattle.s3_model.specs.declared.tries.Mark.{Mark}
use Rattle.task_acts.specs.declared.work.Work.{Work}
use Rattle.task_acts.specs.Ends.{is_by_request}
use Rattle.task_acts.specs.Histories.{Came}
use Rattle.task_acts.specs.Work.{IsWorkOf, deciding_op}
use Rattle.shared_lemmas.proofs.Clashes.{none_is_some, some_is}
use Rattle.shared_lemmas.proofs.Members.{Has, contains_of, has, has_at, has_middle, split_of}
use Rattle.job_terms.proofs.SameJobs.{job_is, op_same}
use Rattle.task_progress.proofs.Endings.{no}
use Rattle.task_progress.proofs.Progress.{both}
use Rattle.manager_moves.specs.Runs.{Back, Events, Sent, Shared, share}
use Rattle.task_schedule.specs.Journals.{IsRunOf}
use Rattle.task_schedule.specs.Outcomes.{HasDecidingMark, MarksAreOfDispatches}
use Rattle.task_schedule.proofs.Joined.{back_at, its_task, return_of}
use Rattle.task_schedule.proofs.Marks.{index_of}
use Rattle.task_schedule.proofs.Returned.{has_come_back}
use Rattle.task_schedule.proofs.SentJobs.{at_of}
use Rattle.task_schedule.proofs.Shares.{share_back, share_came}

same_number : (n : ℕ) → (n == n) ≡ true
same_number n = grind arith

pub by_request : (k : Kind) → is_by_request k ≡ true → IsDecidedByRequest k
by_request kind.Upload e = tt
by_request kind.Copy e = tt
by_request kind.RemoveObject e = tt
by_request k e = no e

is_request : (k : Kind) → IsDecidedByRequest k → is_by_request k ≡ true
is_request kind.Upload d = refl
is_request kind.Copy d = refl
is_request kind.RemoveObject d = refl
is_request k d = absurd d

-- the member of a list from which a member was made
made_of : {X Y : Type 0} (f : X → Y) (xs : List X) (k : ℕ) (y : Y) → slice_get (map f xs) k ≡ Some y → (x : X) × (slice_get xs k ≡ Some x) × (f x ≡ y)
made_of f [] k y e = absurd (none_is_some y e)
made_of f (x ∷ xs) zero y e = (x, refl, some_is (f x) y e)
made_of f (x ∷ xs) (suc k) y e = made_of f xs k y e

pub makes : {X Y : Type 0} (f : X → Y) (xs : List X) (k : ℕ) (x : X) → slice_get xs k ≡ Some x → slice_get (map f xs) k ≡ Some (f x)
makes f [] k x e = absurd (none_is_some x e)
makes f (y ∷ xs) zero x e = ap Some (ap f (some_is y x e))
makes f (y ∷ xs) (suc k) x e = makes f xs k x e

pub op_is : (setting : Setting) {w : Work} {task : Task} → IsWorkOf task setting.config setting.limits w → deciding_op w ≡ deciding task.kind (is_small setting task)
op_is setting {w} {task} work = ap (λ (k : Kind). deciding k w.small) work.kind_is ∙ ap (deciding task.kind) work.small_is

module _ (Shows : Ask → ℕ → Talk → Class → List ℕ → Type 0) (HasStatus : Ask → ℕ → Talk → ℕ → Type 0) (CallFailed : ℕ → Cause → Type 0)
    (s : Shared) (setting : Setting) (planned : ℕ) (events : Events) (dispatched coming : List Dispatched) (r : IsRunOf Shows s setting planned events dispatched coming)
    (n : ℕ) (w : Work) (task : Task) (of_mark : Mark) (of_plan : slice_get s.works n ≡ Some w) (is_task : slice_get setting.tasks n ≡ Some task) where
  work : IsWorkOf task setting.config setting.limits w
  work = let its = r.works.each n w of_plan in subst (λ (t : Task). IsWorkOf t setting.config setting.limits w) (some_is its.0 task (sym its.1 ∙ is_task)) its.2

  -- what its history shows, the dispatches show
  shown : HasDecidingMark w (share w n events) of_mark → HasDeciding Shows HasStatus CallFailed setting dispatched coming n task of_mark
  shown m =
      let back = share_back w n events m.0 (has (share w n events) (Came m.0) m.1) in
      let split = split_of events (Back back.0 m.0) back.1 in
      let return = return_of Shows s setting planned events dispatched coming r n w of_plan split.front split.back back.0 m.0 split.is back.2 in
      let two = and_parts (is_by_request w.of_kind && is_op m.0.job.id.op (deciding_op w)) (m.0.job.id.number == 0) m.2 in
      let one = and_parts (is_by_request w.of_kind) (is_op m.0.job.id.op (deciding_op w)) two.0 in
      let its_op = op_same m.0.job.id.op (deciding_op w) (eqb-true (op_number m.0.job.id.op) (op_number (deciding_op w)) one.1) ∙ op_is setting work in
      let marks : map (λ (t : Attempt). t.mark) return.x.dispatch.attempts ≡ m.0.tries = return.back.brings.marks ∙ ap (λ (c : SeenCarried). c.tries) return.same in
      let index = index_of m.0.tries of_mark m.3 in
      let attempt = made_of (λ (t : Attempt). t.mark) return.x.dispatch.attempts index.0 of_mark (ap (λ (tries : List Mark). slice_get tries index.0) marks ∙ index.1) in (
        return.x,
        return.known,
        (
          by_request task.kind (sym (ap is_by_request work.kind_is) ∙ one.0),
          return.a.job_is ∙ job_is (job_of n m.0.job.id.op m.0.job.id.number) (job_of n (deciding task.kind (is_small setting task)) 0) refl its_op (eqb-true m.0.job.id.number 0 two.1),
        ),
        (index.0, attempt.0, attempt.1, attempt.2),
      )

  told : HasDeciding Shows HasStatus CallFailed setting dispatched coming n task of_mark → HasDecidingMark w (share w n events) of_mark
  told d =
      let o = deciding task.kind (is_small setting task) in
      let a = at_of Shows s setting planned events dispatched coming r n w of_plan o 0 d.0 d.1 d.2.1 in
      let back = has_come_back Shows s setting planned events dispatched coming r n w of_plan o 0 d.0 a in
      let id = back.of_job ∙ a.job_is in
      let there = share_came w n events back.lane back.carried
      (subst (λ (z : Events). Has z (Back back.lane back.carried)) (sym (back_at Shows s setting planned events dispatched coming r n w of_plan o 0 d.0 a back))
      (has_middle back.newer (Back back.lane back.carried) (back.between ++ Sent n o 0 a.lane ∷ a.before)))
      (its_task Shows s setting planned events dispatched coming r n w of_plan o 0 d.0 a back) in
      let its_op : back.carried.job.id.op ≡ deciding_op w = ap (λ (j : JobId). j.op) id ∙ sym (op_is setting work) in
      let mark_at = makes (λ (t : Attempt). t.mark) d.0.dispatch.attempts d.3.0 d.3.1 d.3.2 in (
        back.carried,
        contains_of (share w n events) (Came back.carried) there,
        both (is_by_request w.of_kind && is_op back.carried.job.id.op (deciding_op w)) (back.carried.job.id.number == 0)
            (both (is_by_request w.of_kind) (is_op back.carried.job.id.op (deciding_op w)) (ap is_by_request work.kind_is ∙ is_request task.kind d.2.0)
            (subst (λ (p : Op). is_op p (deciding_op w) ≡ true) (sym its_op) (same_number (op_number (deciding_op w)))))
            (subst (λ (m : ℕ). (m == 0) ≡ true) (sym (ap (λ (j : JobId). j.number) id)) refl),
        contains_of back.carried.tries of_mark (has_at back.carried.tries d.3.0 of_mark
            (ap (λ (tries : List Mark). slice_get tries d.3.0) (sym back.brings.marks) ∙ mark_at ∙ ap Some d.3.3)),
      )

pub marks_are_of_dispatches : (Shows : Ask → ℕ → Talk → Class → List ℕ → Type 0) (HasStatus : Ask → ℕ → Talk → ℕ → Type 0) (CallFailed : ℕ → Cause → Type 0) → MarksAreOfDispatches Shows HasStatus CallFailed
marks_are_of_dispatches Shows HasStatus CallFailed s setting planned events dispatched coming r n w task of_mark of_plan is_task = (
  shown Shows HasStatus CallFailed s setting planned events dispatched coming r n w task of_mark of_plan is_task,
  told Shows HasStatus CallFailed s setting planned events dispatched coming r n w task of_mark of_plan is_task,
)
