-- The first failure of a task: the dispatch of a run that failed first.
use Rattle.std.proofs.Common.{◌≡◌, ◌∙◌, ◌⊎◌, ◌+◌, ◌++◌, ◌<◌, ℕ, Bool, true, false, List, ◌∷◌, Option, Some, None, Contains, refl, sym, subst, ap, inl, inr, arith, slice_get}
use Rattle.std.proofs.lemmas.Bool.{ltb-true}
use Rattle.std.proofs.lemmas.List.Sorted.{Contains-permutation}
use Rattle.std.specs.Prelude.{is_some, nat_lt}
use Rattle.jobs.specs.Endings.{SeenCarried}
use Rattle.manager_moves.specs.Runs.{Back, Events, Sent, Shared, share}
use Rattle.job_terms.specs.Dispatches.{Dispatched}
use Rattle.run_promise.specs.Outcomes.{FailsFirstBy, HasNoFailure, IsFailureOf, IsLastCause}
use Rattle.run_promise.specs.Schedule.{IsBeforePlace, IsFailed, Setting}
use Rattle.job_terms.specs.Jobs.{job_of}
use Rattle.s3_model.specs.Talks.{Talk}
use Rattle.s3_model.specs.declared.answers.Class.{Class}
use Rattle.s3_model.specs.declared.outcomes.Cause.{Cause}
use Rattle.s3_model.specs.declared.outcomes.JobId.{JobId}
use Rattle.s3_model.specs.declared.requests.Ask.{Ask}
use Rattle.s3_model.specs.declared.requests.Op.{Op}
use Rattle.shared_lemmas.proofs.Clashes.{some_is}
use Rattle.shared_lemmas.proofs.Members.{contains_of, has, has_middle, split_of}
use Rattle.task_acts.specs.declared.work.Work.{Work}
use Rattle.task_acts.specs.Failures.{carried_cause, first_failure, is_cut_short, is_memory}
use Rattle.task_acts.specs.Histories.{Came, History}
use Rattle.task_progress.proofs.Endings.{no}
use Rattle.task_schedule.specs.Journals.{IsBack, IsRunOf, ShowOne, place_after}
use Rattle.task_schedule.proofs.EventStops.{IsFailure}
use Rattle.task_schedule.proofs.Failing.{came_after, given_once, in_dispatched, not_cut, not_well}
use Rattle.task_schedule.proofs.Failures.{failed_fails}
use Rattle.task_schedule.proofs.Joined as joined
use Rattle.task_schedule.proofs.Joined.{IsReturn, its_id, return_of}
use Rattle.task_schedule.proofs.Places.{happened_before, same_place}
use Rattle.task_schedule.proofs.Returned.{has_come_back}
use Rattle.task_schedule.proofs.SentJobs.{IsAt, at_of, twice}
use Rattle.task_schedule.proofs.Shares.{BackAt, back_at, since, since_is}
use Rattle.task_schedule.proofs.Stopping.{failure_stays}

neither_less : (u v : ℕ) → nat_lt u v ≡ false → nat_lt v u ≡ false → u ≡ v
neither_less u v e f = grind arith

back_same : (l m : ℕ) (c d : SeenCarried) (xs ys : Events) → Back l c ∷ xs ≡ Back m d ∷ ys → c ≡ d
back_same l m c d xs ys e = cc

module _ (Shows : Ask → ℕ → Talk → Class → List ℕ → Type 0) (HasStatus : Ask → ℕ → Talk → ℕ → Type 0) (CallFailed : ℕ → Cause → Type 0)
    (s : Shared) (setting : Setting) (planned : ℕ) (events : Events) (dispatched coming : List Dispatched) (r : IsRunOf Shows s setting planned events dispatched coming)
    (one : ShowOne Shows) (n : ℕ) (w : Work) (of_plan : slice_get s.works n ≡ Some w) where
  abbrev Failure : Dispatched → Type 0
  Failure c = IsFailureOf Shows HasStatus CallFailed setting dispatched coming n c

  -- ---- a job that failed

  module _ (f : Dispatched) (is : IsFailed Shows setting coming f) (task : f.dispatch.job.task ≡ Some n) where
    pub failed_known : Contains dispatched f
    failed_known = in_dispatched Shows s setting planned events dispatched coming r one f (subst (λ (z : List Dispatched). Contains z f) (sym is.2) (contains_of (is.0 ++ f ∷ is.1) f (has_middle is.0 f is.1)))

    abbrev o : Op
    o = f.dispatch.job.op

    abbrev k : ℕ
    k = f.dispatch.job.number

    pub failed_at : IsAt Shows s setting planned events dispatched coming r n w of_plan o k f
    failed_at = at_of Shows s setting planned events dispatched coming r n w of_plan o k f failed_known (its_id Shows s setting planned events dispatched coming r f n task)

    pub failed_back : IsBack Shows planned failed_at.later (Sent n o k failed_at.lane ∷ failed_at.before) f
    failed_back = has_come_back Shows s setting planned events dispatched coming r n w of_plan o k f failed_at

    abbrev pub failed_rest : Events
    failed_rest = failed_back.between ++ Sent n o k failed_at.lane ∷ failed_at.before

    pub failed_there : events ≡ failed_back.newer ++ Back failed_back.lane failed_back.carried ∷ failed_rest
    failed_there = joined.back_at Shows s setting planned events dispatched coming r n w of_plan o k f failed_at failed_back

    -- from its return on the task has failed
    pub fails_from : (more rest : Events) → rest ≡ more ++ Back failed_back.lane failed_back.carried ∷ failed_rest → is_some (first_failure w (share w n rest)) ≡ true
    fails_from more rest e = subst (λ (z : Events). is_some (first_failure w (share w n z)) ≡ true) (sym e)
        (subst (λ (h : History). is_some (first_failure w h) ≡ true) (sym (since_is w n more (Back failed_back.lane failed_back.carried ∷ failed_rest)))
        (failure_stays w (since w n more (Back failed_back.lane failed_back.carried ∷ failed_rest)) (share w n (Back failed_back.lane failed_back.carried ∷ failed_rest))
        (failed_fails Shows s setting planned events dispatched coming r one n w of_plan o k f failed_known failed_at failed_back is)))

  -- where the history has no failure no job failed
  pub none_failed : first_failure w (share w n events) ≡ None → HasNoFailure Shows HasStatus CallFailed setting dispatched coming n
  none_failed none c failure = no (sym (ap (λ (x : Option Cause). is_some x) none) ∙ fails_from c failure.0 failure.1 (failed_back c failure.0 failure.1).newer events (failed_there c failure.0 failure.1))

  -- ---- the first failure, where a job is

  module _ (later before : History) (c : SeenCarried) (is : share w n events ≡ later ++ Came c ∷ before) (none : first_failure w before ≡ None)
      (uncut : is_cut_short w c ≡ false) (cause : is_some (carried_cause w c) ≡ true) (remembered : is_memory (carried_cause w c) ≡ false) where
    pub stands : BackAt w n events later before c
    stands = back_at w n events later before c is

    pub return : IsReturn Shows s setting planned events dispatched coming r n w of_plan stands.lane c stands.rest
    return = return_of Shows s setting planned events dispatched coming r n w of_plan stands.newer stands.rest stands.lane c stands.is stands.task

    abbrev x : Dispatched
    x = return.x

    abbrev p : Op
    p = c.job.id.op

    abbrev m : ℕ
    m = c.job.id.number

    fail : IsFailure w return.back.carried
    fail = subst (λ (z : SeenCarried). IsFailure w z) (sym return.same) (record { not_cut = uncut; has_cause = cause; not_memory = remembered })

    failed : IsFailed Shows setting coming return.x
    failed =
        let split = split_of coming return.x (has coming return.x (Contains-permutation dispatched coming return.x r.is_coming return.known)) in (
          split.front,
          split.back,
          split.is,
          λ cut. not_cut Shows s setting planned events dispatched coming r one n w of_plan p m return.x return.known return.a return.back fail split.front split.back _ split.is cut,
          λ well. not_well Shows s setting planned events dispatched coming r one n w of_plan p m return.x return.known return.a return.back fail well,
        )

    its_task : return.x.dispatch.job.task ≡ Some n
    its_task = ap (λ (j : JobId). j.task) return.a.job_is

    -- every other came later
    module _ (other : Dispatched) (failure : Failure other) where
      abbrev back : IsBack Shows planned (failed_at other failure.0 failure.1).later (Sent n other.dispatch.job.op other.dispatch.job.number (failed_at other failure.0 failure.1).lane ∷ (failed_at other failure.0 failure.1).before) other
      back = failed_back other failure.0 failure.1

      abbrev rest : Events
      rest = failed_rest other failure.0 failure.1

      there : events ≡ (failed_back other failure.0 failure.1).newer ++ Back (failed_back other failure.0 failure.1).lane (failed_back other failure.0 failure.1).carried ∷ failed_rest other failure.0 failure.1
      there = failed_there other failure.0 failure.1

      not_earlier : place_after planned (failed_rest other failure.0 failure.1) < place_after planned stands.rest → ⊥
      not_earlier less =
          let found = happened_before back.newer rest stands.newer stands.rest (Back back.lane back.carried) (Back stands.lane c) (sym there ∙ stands.is) (by less) in
          no (sym (ap (λ (y : Option Cause). is_some y) none) ∙ ap (λ (h : History). is_some (first_failure w h)) (sym stands.rest_is) ∙ fails_from other failure.0 failure.1 found.0 stands.rest found.1)
        where
          by : {u v : ℕ} → planned + u < planned + v → u < v
          by l = omega arith

      -- at one place one dispatch comes
      same_dispatch : place_after planned stands.rest ≡ place_after planned (failed_rest other failure.0 failure.1) → other.dispatch ≡ return.x.dispatch
      same_dispatch level = by (nat_lt return.x.dispatch.given_at other.dispatch.given_at) refl (nat_lt other.dispatch.given_at return.x.dispatch.given_at) refl
        where
          both : {u v : ℕ} → planned + u ≡ planned + v → u ≡ v
          both e = omega arith

          same_carried : c ≡ back.carried
          same_carried = back_same stands.lane back.lane c back.carried stands.rest rest
              (same_place stands.newer stands.rest back.newer rest (Back stands.lane c) (Back back.lane back.carried) (sym stands.is ∙ there) tt tt (both level))

          job_is : other.dispatch.job ≡ job_of n p m
          job_is = sym back.of_job ∙ ap (λ (d : SeenCarried). d.job.id) (sym same_carried) ∙ ap (λ (d : SeenCarried). d.job.id) (sym return.same) ∙ return.back.of_job ∙ return.a.job_is

          b : IsAt Shows s setting planned events dispatched coming r n w of_plan p m other
          b = at_of Shows s setting planned events dispatched coming r n w of_plan p m other (failed_known other failure.0 failure.1) job_is

          after : return.x.dispatch.given_at < other.dispatch.given_at → ⊥
          after less =
              let pair = twice Shows s setting planned events dispatched coming r n w of_plan p m return.x other return.a b less in
              let came = came_after Shows s setting planned events dispatched coming r one n w of_plan p m other b (place_after planned rest) back.came_at in
              let ahead = pair.ahead_of in
              let place = some_is pair.place (place_after planned stands.rest) (sym pair.came_at ∙ return.came_at) in
              let even = level in
              omega arith

          ahead_of_it : other.dispatch.given_at < return.x.dispatch.given_at → ⊥
          ahead_of_it less =
              let pair = twice Shows s setting planned events dispatched coming r n w of_plan p m other return.x b return.a less in
              let came = came_after Shows s setting planned events dispatched coming r one n w of_plan p m return.x return.a (place_after planned stands.rest) return.came_at in
              let ahead = pair.ahead_of in
              let place = some_is pair.place (place_after planned rest) (sym pair.came_at ∙ back.came_at) in
              let even = level in
              omega arith

          by : (i : Bool) → nat_lt return.x.dispatch.given_at other.dispatch.given_at ≡ i → (j : Bool) → nat_lt other.dispatch.given_at return.x.dispatch.given_at ≡ j → other.dispatch ≡ return.x.dispatch
          by true e j f = absurd (after (ltb-true return.x.dispatch.given_at other.dispatch.given_at e))
          by false e true f = absurd (ahead_of_it (ltb-true other.dispatch.given_at return.x.dispatch.given_at f))
          by false e false f = ap (λ (d : Dispatched). d.dispatch) (sym (given_once Shows s setting planned events dispatched coming r one return.x other return.known (failed_known other failure.0 failure.1)
              (neither_less return.x.dispatch.given_at other.dispatch.given_at e f)))

      comes_later : (other.dispatch ≡ return.x.dispatch) ⊎ IsBeforePlace return.x.dispatch.came_at other.dispatch.came_at
      comes_later = by (nat_lt (place_after planned stands.rest) (place_after planned rest)) refl (nat_lt (place_after planned rest) (place_after planned stands.rest)) refl
        where
          by : (i : Bool) → nat_lt (place_after planned stands.rest) (place_after planned rest) ≡ i → (j : Bool) → nat_lt (place_after planned rest) (place_after planned stands.rest) ≡ j
              → (other.dispatch ≡ return.x.dispatch) ⊎ IsBeforePlace return.x.dispatch.came_at other.dispatch.came_at
          by true e j f = inr (subst (λ (z : Option ℕ). IsBeforePlace z other.dispatch.came_at) (sym return.came_at)
              (subst (λ (z : Option ℕ). IsBeforePlace (Some (place_after planned stands.rest)) z) (sym back.came_at) (ltb-true (place_after planned stands.rest) (place_after planned rest) e)))
          by false e true f = absurd (not_earlier (ltb-true (place_after planned rest) (place_after planned stands.rest) f))
          by false e false f = inl (same_dispatch (neither_less (place_after planned stands.rest) (place_after planned rest) e f))

    pub fails_first_by : (why : Cause) → IsLastCause Shows HasStatus return.x why → FailsFirstBy Shows HasStatus CallFailed setting dispatched coming n why
    fails_first_by why shown = (return.x, ((failed, its_task), λ other failure. comes_later other failure), shown)
