-- Each job has an attempt left, and only one that was cut short is given again.
use Rattle.std.proofs.Common.{append_assoc, ◌≡◌, ◌∙◌, ◌+◌, ◌++◌, ◌<◌, ◌≤◌, ℕ, ◌∷◌, Some, None, AllPairs, Contains, sym, subst, ap, inl, inr, arith, slice_get, true}
use Rattle.answer_classes.specs.Showing.{Shows}
use Rattle.job_terms.specs.Dispatches.{Dispatched}
use Rattle.jobs.specs.Endings.{SeenCarried}
use Rattle.lane_laws.specs.Runs.{Giving, IsCutShort}
use Rattle.run_traces.proofs.Splits.{before_it}
use Rattle.run_traces.proofs.Steps.{entries_grow, entry_count, gave_counted}
use Rattle.run_traces.specs.Traces.{Gave, RunTrace, Took}
use Rattle.s3_model.specs.declared.outcomes.JobId.{JobId}
use Rattle.shared_lemmas.proofs.Members.{Has, contains_of, found_or_not, has, has-map, has_at, has_middle, mapped, pair_of}
use Rattle.task_acts.specs.Failures.{is_cut_short}
use Rattle.task_schedule.proofs.Failures.{all_pairs}
use Rattle.task_schedule.proofs.SentJobs.{at_of, twice}
use Rattle.task_schedule.proofs.Joined.{its_id}
use Rattle.run_causes.proofs.Behind.{ds, events, planned}
use Rattle.run_causes.proofs.TaskGivings.{a, came_same, cut_is_short, k, left, o, run, work}
use Rattle.run_causes.specs.Causes.{IsTracedRun, TellsStops, TracedRun}

one_more : (m n : ℕ) → n ≡ m + 1 → m < n
one_more m n e = omega arith

module _ (r : TracedRun) (is : IsTracedRun r) where
  -- where the job of a giving was given
  pub gave_there : (g : Giving) (known : Contains r.givings g) → let of = is.givings.each g known in
      r.trace ≡ (of.stands.later ++ Took g.of.dispatch.lane of.carried ∷ of.stands.between) ++ Gave g.of.dispatch.lane of.job ∷ of.stands.before
  gave_there g known =
      let of = is.givings.each g known in
      of.stands.is ∙ sym (append_assoc of.stands.later (Took g.of.dispatch.lane of.carried ∷ of.stands.between) (Gave g.of.dispatch.lane of.job ∷ of.stands.before))

  pub of_no_task : (g : Giving) (known : Contains r.givings g) → g.of.dispatch.job.task ≡ None → (is.givings.each g known).job.id.task ≡ None
  of_no_task g known none = ap (λ (j : JobId). j.task) (sym (is.givings.each g known).tells.of_job.id) ∙ none

  pub given_in_trace : (g : Giving) (known : Contains r.givings g) → Contains r.trace (Gave g.of.dispatch.lane (is.givings.each g known).job)
  given_in_trace g known =
      let of = is.givings.each g known in
      contains_of r.trace (Gave g.of.dispatch.lane of.job) (subst (λ (t : RunTrace). Has t (Gave g.of.dispatch.lane of.job)) (sym (gave_there g known))
      (has_middle (of.stands.later ++ Took g.of.dispatch.lane of.carried ∷ of.stands.between) (Gave g.of.dispatch.lane of.job) of.stands.before))

  -- a job of the planning is given once
  not_twice : (g h : Giving) (known : Contains r.givings g) (known_h : Contains r.givings h) → g.of.dispatch.given_at < h.of.dispatch.given_at → g.of.dispatch.job ≡ h.of.dispatch.job
      → g.of.dispatch.job.task ≡ None → ⊥
  not_twice g h known known_h less same none =
      let of = is.givings.each g known in
      let then = is.givings.each h known_h in
      let found = before_it entry_count entries_grow (of.stands.later ++ Took g.of.dispatch.lane of.carried ∷ of.stands.between) (then.stands.later ++ Took h.of.dispatch.lane then.carried ∷ then.stands.between)
      (Gave g.of.dispatch.lane of.job) (Gave h.of.dispatch.lane then.job) of.stands.before then.stands.before (one_more _ _ (gave_counted h.of.dispatch.lane then.job then.stands.before))
      (sym (gave_there g known) ∙ gave_there h known_h) (by of.stands.given_at then.stands.given_at less) in
      is.once.once (then.stands.later ++ Took h.of.dispatch.lane then.carried ∷ then.stands.between) then.stands.before h.of.dispatch.lane g.of.dispatch.lane then.job of.job
      (gave_there h known_h) (of_no_task h known_h (ap (λ (j : JobId). j.task) (sym same) ∙ none))
      (contains_of then.stands.before (Gave g.of.dispatch.lane of.job) (subst (λ (t : RunTrace). Has t (Gave g.of.dispatch.lane of.job)) (sym found.1) (has_middle found.0 (Gave g.of.dispatch.lane of.job) of.stands.before)))
      (sym of.tells.of_job.id ∙ same ∙ then.tells.of_job.id)
    where
      by : {u v p q : ℕ} → u ≡ p → v ≡ q → u < v → p < q
      by e f l = omega arith

module _ (r : TracedRun) (is : IsTracedRun r) (tells : TellsStops r) where
  pub has_left : (g : Giving) → Contains r.givings g → g.of.dispatch.earlier < r.setting.config.attempts
  has_left g known = elim (found_or_not g.of.dispatch.job.task) [
    | inl none ↦ let of = is.givings.each g known in by of.stands.earlier (is.once.plain g.of.dispatch.lane of.job (given_in_trace r is g known) (of_no_task r is g known none)).1 is.some_attempt
    | inr some ↦ left r is tells g known some.0 some.1
  ]
    where
      by : {u p q : ℕ} → u ≡ p → p ≡ 0 → 1 ≤ q → u < q
      by e f l = omega arith

  -- a job that is given again was cut short
  again_short : (g h : Giving) (known : Contains r.givings g) (known_h : Contains r.givings h) → g.of.dispatch.given_at < h.of.dispatch.given_at → g.of.dispatch.job ≡ h.of.dispatch.job
      → IsCutShort r.setting g
  again_short g h known known_h less same = elim (found_or_not g.of.dispatch.job.task) [
    | inl none ↦ absurd (not_twice r is g h known known_h less same none)
    | inr some ↦ of_task some.0 some.1
  ]
    where
      of_task : (n : ℕ) → g.of.dispatch.job.task ≡ Some n → IsCutShort r.setting g
      of_task n task =
          let its = work r is tells g known n task in
          let y = at_of Shows r.shared r.setting (planned r is) (events r is) (ds r is) r.coming (run r is tells) n its.w its.of_plan (o r is tells g known n task) (k r is tells g known n task) h.of
          (contains_of (ds r is) h.of (has-map (λ (x : Giving). x.of) r.givings h (has r.givings h known_h)))
          (sym same ∙ its_id Shows r.shared r.setting (planned r is) (events r is) (ds r is) r.coming (run r is tells) g.of n task) in
          let pair = twice Shows r.shared r.setting (planned r is) (events r is) (ds r is) r.coming (run r is tells) n its.w its.of_plan (o r is tells g known n task) (k r is tells g known n task) g.of h.of
          (a r is tells g known n task) y less in
          cut_is_short r is tells g known n task (subst (λ (c : SeenCarried). is_cut_short its.w c ≡ true) (came_same r is tells g known n task pair.came.back) pair.cut)

  abbrev pub GivenAgain : Dispatched → Dispatched → Type 0
  GivenAgain x y = x.dispatch.job ≡ y.dispatch.job → (g : Giving) × Contains r.givings g × (g.of ≡ x) × IsCutShort r.setting g

  pub given_again : AllPairs GivenAgain (ds r is)
  given_again = all_pairs GivenAgain (ds r is) one_pair
    where
      one_pair : (i j : ℕ) (x y : Dispatched) → i < j → slice_get (ds r is) i ≡ Some x → slice_get (ds r is) j ≡ Some y → GivenAgain x y
      one_pair i j x y l at_i at_j same =
          let first = mapped (λ (g : Giving). g.of) r.givings x (has_at (ds r is) i x at_i) in
          let second = mapped (λ (g : Giving). g.of) r.givings y (has_at (ds r is) j y at_j) in
          let known = contains_of r.givings first.0 first.1 in
          let less = pair_of (λ (u v : Dispatched). u.dispatch.given_at < v.dispatch.given_at) (ds r is) (run r is tells).sent.in_order i j x y l at_i at_j in (
            first.0,
            known,
            first.2,
            again_short first.0 second.0 known (contains_of r.givings second.0 second.1)
                (by (ap (λ (z : Dispatched). z.dispatch.given_at) first.2) (ap (λ (z : Dispatched). z.dispatch.given_at) second.2) less)
                (ap (λ (z : Dispatched). z.dispatch.job) first.2 ∙ same ∙ ap (λ (z : Dispatched). z.dispatch.job) (sym second.2)),
          )
        where
          by : {u v p q : ℕ} → p ≡ u → q ≡ v → u < v → p < q
          by e f l = omega arith
