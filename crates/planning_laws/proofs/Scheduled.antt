-- Questions keep to the whole schedule of a run that gives no job of a task.
use Rattle.std.proofs.Common.{◌≡◌, ◌∙◌, ℕ, true, List, Option, Some, sym, subst, ap, arith, slice_get}
use Rattle.std.specs.Prelude.{Contains, IsPermutation, IsSome}
use Rattle.answer_classes.specs.Showing.{Shows}
use Rattle.job_terms.specs.Dispatches.{Dispatched}
use Rattle.job_terms.specs.Ops.{IsPlanning, op_of}
use Rattle.lane_laws.specs.Runs.{Giving, dispatched_of}
use Rattle.list_walk.specs.Pages.{IsRefusedPage}
use Rattle.run_promise.specs.Schedule.{IsSchedule, Setting}
use Rattle.run_schedule.specs.Runs.{KeepsPlanning}
use Rattle.s3_model.specs.Talks.{WireLog}
use Rattle.s3_model.specs.declared.outcomes.JobId.{JobId}
use Rattle.s3_model.specs.declared.requests.Ask.{Ask}
use Rattle.s3_model.specs.declared.requests.Ask.TheVariants as ask
use Rattle.s3_model.specs.declared.requests.Op.TheVariants as op
use Rattle.shared_lemmas.proofs.Clashes.{false_true, none_is_some}
use Rattle.task_schedule.specs.Journals.{ComeInOrder}
use Rattle.planning_laws.proofs.Asked.{AreOf}
use Rattle.planning_laws.proofs.Causes.{all_apart}
use Rattle.planning_laws.proofs.Keeping.{at_place, course_of, each_of, keeps, no_task}
use Rattle.planning_laws.specs.Laws.{QuestionsAreScheduled}
use Rattle.planning_questions.specs.Questions.{Question}

no_abort : (asked : Ask) → IsPlanning asked → op_of asked ≡ op.Abort → ⊥
no_abort (ask.Head bucket key) is e = cc
no_abort (ask.List bucket prefix delimited token) is e = cc
no_abort ask.Buckets is e = cc
no_abort asked is e = absurd is

module _ (Plans : List Dispatched → Type 0) (s : Setting) (qs : List Question) (gs : List Giving) (all : AreOf 0 qs gs) (plan : KeepsPlanning Shows s Plans (dispatched_of gs)) where
  abbrev jobs : List Dispatched
  jobs = dispatched_of gs

  of_no_task : (c : Dispatched) (n : ℕ) → Contains jobs c → c.dispatch.job.task ≡ Some n → ⊥
  of_no_task c n known e = none_is_some n (sym (no_task qs gs all c known) ∙ e)

  number_at : (k : ℕ) (c : Dispatched) → slice_get jobs k ≡ Some c → c.dispatch.job.number ≡ k
  number_at k c e = let at = at_place qs gs all k c e in subst (λ (x : Dispatched). x.dispatch.job.number ≡ k) at.3 (ap (λ (j : JobId). j.number) at.2.job)

  pub schedule_of : (coming : List Dispatched) → IsPermutation jobs coming → ComeInOrder coming → IsSchedule Shows s Plans jobs coming
  schedule_of coming is in_order = record {
    is_coming = is;
    in_order = in_order;
    asks = λ c n known of_task. absurd (of_no_task c n known of_task);
    plans = plan.plans;
    planned = plan.planned;
    numbered = plan.numbered;
    one_by_one = plan.one_by_one;
    dry = plan.dry;
    twice = λ i j d before inside same. absurd (all_apart qs gs all i j d before inside same);
    no_third = λ a b c i j k before later at_i at_j at_k same again.
        let one = number_at i a at_i in
        let two = number_at j b at_j in
        let number = ap (λ (job : JobId). job.number) same in
        omega (arith, one, two, number, before);
    stops = λ failed c is_failed of_task other known same after.
        absurd (false_true (subst (λ (task : Option ℕ). IsSome task) (sym same ∙ no_task qs gs all c known) of_task));
    abort_last = λ a c known_a known_c is_abort same other.
        absurd (each_of qs gs all (λ (d : Dispatched). d.dispatch.job.op ≡ op.Abort → ⊥) (λ n q g of e. no_abort q.asked of.planning (sym (ap (λ (j : JobId). j.op) of.job) ∙ e)) a known_a is_abort);
    aborts = λ n id end at_end is_upload. absurd (of_no_task is_upload.0 n is_upload.1 (ap (λ (job : JobId). job.task) is_upload.2));
    completed_stays = λ n end a known is_abort completed. of_no_task a n known (ap (λ (job : JobId). job.task) is_abort);
    moves_last = λ c n t known of_task at moves is_delete. absurd (of_no_task c n known of_task);
  }

module _ {W : Type 0} (seen : W → Option WireLog) where
  pub are_scheduled : QuestionsAreScheduled seen
  are_scheduled carrier s befores afters course needs wanting refused_page is asks =
      let all = course_of seen carrier s befores afters course is in
      schedule_of _ s course.questions course.givings all (keeps IsRefusedPage (wanting ≡ true) refused_page needs s course.questions course.givings all asks) course.coming is.has_givings.is_coming is.has_givings.in_order
