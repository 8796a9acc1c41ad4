-- The setting that outcomes tell.
use Rattle.std.proofs.Common.{◌≡◌, ◌∙◌, ◌==◌, ◌⊎◌, ℕ, Bool, true, false, List, Option, Some, None, refl, sym, subst, ap, inl, inr, arith, slice_get}
use Rattle.std.specs.Prelude.{if◌then◌else◌, is_some, nat_lt}
use Rattle.manager_core.specs.Ended.{AreOutcomes}
use Rattle.manager_moves.proofs.ShareLaws.{shares_are_histories}
use Rattle.manager_moves.specs.Runs.{Events, Shared, lacks_memory, made_count, outcome_in, share}
use Rattle.run_causes.proofs.FirstCalls.{failed_tells}
use Rattle.run_causes.specs.Causes.{TellsMemory}
use Rattle.run_causes.specs.Outcomes.{ClaimsTell, IsToldBy, OutcomesTell}
use Rattle.run_progress.proofs.Progress.{tasks_have_ended}
use Rattle.run_promise.specs.Schedule.{Setting}
use Rattle.run_promise.specs.Settled.{cause_of, is_memory, tells_file_failed}
use Rattle.s3_model.specs.declared.outcomes.Cause.{Cause}
use Rattle.s3_model.specs.declared.outcomes.Cause.TheVariants as cause
use Rattle.s3_model.specs.declared.outcomes.Outcome.{Outcome}
use Rattle.s3_model.specs.declared.outcomes.Outcome.TheVariants as outcome
use Rattle.s3_model.specs.declared.tasks.Task.{Task}
use Rattle.shared_lemmas.proofs.Clashes.{none_is_some, some_is}
use Rattle.shared_lemmas.proofs.Members.{found_or_not}
use Rattle.task_acts.specs.Ends.{outcome_of}
use Rattle.task_progress.proofs.Endings.{no}
use Rattle.task_schedule.specs.Journals.{TellsFailures}
use Rattle.whole_runs.specs.Ended.{IsAtEnd}

-- that memory ran out for a task as it was made tells so too
tells_in : (task : Option Task) (made lacks : Bool) (of_share : Option Outcome) (how : Outcome) (why : Cause) → of_share ≡ Some (outcome.Failed why) → tells_file_failed task (Some (outcome.Failed why)) ≡ true
    → (if made then (if lacks then Some (outcome.Failed cause.Memory) else of_share) else None) ≡ Some how → tells_file_failed task (Some how) ≡ true
tells_in task true true x how why e tells f = subst (λ (y : Outcome). tells_file_failed task (Some y) ≡ true) (some_is (outcome.Failed cause.Memory) how f) refl
tells_in task true false x how why e tells f = subst (λ (y : Outcome). tells_file_failed task (Some y) ≡ true) (some_is (outcome.Failed why) how (sym e ∙ f)) tells
tells_in task false lacks x how why e tells f = absurd (none_is_some how f)

module _ (s : Shared) (setting : Setting) (events : Events) (outcomes : List Outcome) (ended : IsAtEnd s setting events) (are : AreOutcomes s events outcomes) (told : IsToldBy outcomes setting) where
  failures : TellsFailures s setting events
  failures n w why of_plan e so = by (found_or_not (outcome_in w n events))
    where
      tells : tells_file_failed (Some (ended.works.each n w of_plan).0) (Some (outcome.Failed why)) ≡ true
      tells = failed_tells w (ended.works.each n w of_plan).0 (ended.works.each n w of_plan).2.kind_is (ended.works.each n w of_plan).3 (share w n events)
          (shares_are_histories s events n w of_plan ended.run) why e so

      by : (outcome_in w n events ≡ None) ⊎ ((how : Outcome) × (outcome_in w n events ≡ Some how)) → setting.file_failed n ≡ true
      by (inl none) = no (sym (ap (λ (x : Option Outcome). is_some x) none) ∙ tasks_have_ended s events n w ended.means ended.run ended.end of_plan)
      by (inr how) =
          told.files n ∙ ap (λ (t : Option Task). tells_file_failed t (slice_get outcomes n)) (ended.works.each n w of_plan).1
          ∙ ap (tells_file_failed (Some (ended.works.each n w of_plan).0)) (are.each n w of_plan ∙ how.1)
          ∙ tells_in (Some (ended.works.each n w of_plan).0) (nat_lt n (made_count events)) (lacks_memory n events) (outcome_of w (share w n events)) how.0 why e tells how.1

  memory : TellsMemory s setting events
  memory n w how of_plan e is = told.memory n ∙ ap (λ (x : Option Outcome). is_memory (cause_of x)) (are.each n w of_plan ∙ e) ∙ is

pub outcomes_tell : OutcomesTell
outcomes_tell s setting events outcomes ended are told = (failures s setting events outcomes ended are told, memory s setting events outcomes ended are told)

same_status : (m n : ℕ) → m ≡ n → (m == n) ≡ true
same_status m n e = grind arith

pub claims_tell : ClaimsTell
claims_tell = record {
  outcomes = λ start came cancelled_at. record { files = λ n. refl; memory = λ n. refl };
  planning = λ start came cancelled_at trace told lane carried known none ran. same_status came.status 70 (told lane carried known none ran);
}
