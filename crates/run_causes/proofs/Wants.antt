-- The job of a task that wanted memory, and that the setting tells of it.
use Rattle.std.proofs.Common.{◌≡◌, ◌∙◌, ◌&&◌, ◌⊎◌, ℕ, Bool, true, false, Option, Some, None, Contains, refl, sym, subst, ap, inl, inr, length}
use Rattle.std.specs.Prelude.{IsSome, if◌then◌else◌, is_some, nat_lt}
use Rattle.answer_classes.specs.Showing.{Shows}
use Rattle.jobs.specs.Endings.{SeenCarried}
use Rattle.jobs.specs.declared.ending.Ending.{Ending}
use Rattle.lane_laws.specs.Runs.{Giving, RanOut}
use Rattle.manager_moves.specs.Runs.{lacks_memory, made_count, outcome_in, share}
use Rattle.run_progress.proofs.Progress.{tasks_have_ended}
use Rattle.run_promise.specs.Settled as settled
use Rattle.run_promise.specs.Settled.{cause_of}
use Rattle.s3_model.specs.declared.outcomes.Cause.TheVariants as cause
use Rattle.s3_model.specs.declared.outcomes.Outcome.{Outcome}
use Rattle.s3_model.specs.declared.outcomes.Outcome.TheVariants as outcome
use Rattle.s3_model.specs.declared.requests.Op.{Op}
use Rattle.shared_lemmas.proofs.Clashes.{none_is_some, some_is}
use Rattle.shared_lemmas.proofs.Members.{found_or_not}
use Rattle.task_acts.specs.declared.work.Work.{Work}
use Rattle.task_acts.specs.Ends.{outcome_of}
use Rattle.task_acts.specs.Failures.{carried_cause, ended_cause, failure_by, is_cut_short, is_memory, is_unfinished}
use Rattle.task_acts.specs.Histories.{Came}
use Rattle.task_progress.proofs.Endings.{no, skipped}
use Rattle.task_schedule.proofs.Joined.{all_holds, came_in_all}
use Rattle.run_causes.proofs.Behind.{ds, events, planned}
use Rattle.run_causes.proofs.Memory.{forgotten, memory_told}
use Rattle.run_causes.proofs.TaskGivings.{a, back, c, came_is, k, o, of, run, w, work}
use Rattle.run_causes.specs.Causes.{IsTracedRun, TellsMemory, TellsStops, TracedRun}

and_none : (b : Bool) → (b && false) ≡ false
and_none true = refl
and_none false = refl

ran_out_failed : (w : Work) (of_op : Op) (number made : ℕ) (ended : Ending) → RanOut ended → (is_unfinished w.attempts made ended ≡ false) × (is_memory (ended_cause w of_op number ended) ≡ true)
ran_out_failed w of_op number made ended (inl e) =
    subst (λ (x : Ending). (is_unfinished w.attempts made x ≡ false) × (is_memory (ended_cause w of_op number x) ≡ true)) (sym e) (refl, refl)
ran_out_failed w of_op number made ended (inr e) =
    subst (λ (x : Ending). (is_unfinished w.attempts made x ≡ false) × (is_memory (ended_cause w of_op number x) ≡ true)) (sym e) (and_none (nat_lt made w.attempts), refl)

-- a job for which memory ran out is a failure for want of memory
ran_out_fails : (w : Work) (c : SeenCarried) → RanOut c.ending → is_memory (failure_by w (Came c)) ≡ true
ran_out_fails w c ran =
    let two = ran_out_failed w c.job.id.op c.job.id.number (length c.tries) c.ending ran in
    let not_cut = ap (λ (b : Bool). is_some c.job.cell && b) two.0 ∙ and_none (is_some c.job.cell) in
    ap is_memory (skipped (is_cut_short w c) None (carried_cause w c) not_cut) ∙ two.1

-- an outcome for want of memory, of the task or of its share
told_so : (made lacks : Bool) (of_share : Option Outcome) (how : Outcome) → ((x : Outcome) → of_share ≡ Some x → settled.is_memory (cause_of (Some x)) ≡ true)
    → (if made then (if lacks then Some (outcome.Failed cause.Memory) else of_share) else None) ≡ Some how → settled.is_memory (cause_of (Some how)) ≡ true
told_so true true x how memory e = subst (λ (y : Outcome). settled.is_memory (cause_of (Some y)) ≡ true) (some_is (outcome.Failed cause.Memory) how e) refl
told_so true false x how memory e = memory how e
told_so false lacks x how memory e = absurd (none_is_some how e)

module _ (r : TracedRun) (is : IsTracedRun r) (tells : TellsStops r) (memory : TellsMemory r.shared r.setting (events r is)) (g : Giving) (known : Contains r.givings g)
    (n : ℕ) (task : g.of.dispatch.job.task ≡ Some n) where
  abbrev its : Work
  its = w r is tells g known n task

  pub task_wants : RanOut g.ended → r.setting.wanted_memory (Some n) ≡ true
  task_wants ran = by (found_or_not (outcome_in its n (events r is)))
    where
      ran_out : RanOut (back r is tells g known n task).carried.ending
      ran_out = subst RanOut ((of r is tells g known n task).tells.ended ∙ ap (λ (x : SeenCarried). x.ending) (sym (came_is r is tells g known n task))) ran

      of_share : (x : Outcome) → outcome_of its (share its n (events r is)) ≡ Some x → settled.is_memory (cause_of (Some x)) ≡ true
      of_share x e =
          memory_told its (share its n (events r is)) x (work r is tells g known n task).piece
          (all_holds Shows r.shared r.setting (planned r is) (events r is) (ds r is) r.coming (run r is tells) n its (work r is tells g known n task).of_plan)
          (forgotten its (share its n (events r is)) (Came (back r is tells g known n task).carried)
          (came_in_all Shows r.shared r.setting (planned r is) (events r is) (ds r is) r.coming (run r is tells) n its (work r is tells g known n task).of_plan
          (o r is tells g known n task) (k r is tells g known n task) g.of (a r is tells g known n task) (back r is tells g known n task))
          (ran_out_fails its (back r is tells g known n task).carried ran_out)) e

      some : IsSome (outcome_in its n (events r is))
      some = tasks_have_ended r.shared (events r is) n its is.ended.means is.ended.run is.ended.end (work r is tells g known n task).of_plan

      by : (outcome_in its n (events r is) ≡ None) ⊎ ((how : Outcome) × (outcome_in its n (events r is) ≡ Some how)) → r.setting.wanted_memory (Some n) ≡ true
      by (inl none) = no (sym (ap (λ (x : Option Outcome). is_some x) none) ∙ some)
      by (inr how) = memory n its how.0 (work r is tells g known n task).of_plan how.1
          (told_so (nat_lt n (made_count (events r is))) (lacks_memory n (events r is)) (outcome_of its (share its n (events r is))) how.0 of_share how.1)
