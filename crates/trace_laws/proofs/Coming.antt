-- The jobs of tasks come back for what they were given.
use Rattle.std.proofs.Common.{◌≡◌, ◌∙◌, ◌++◌, ℕ, List, [], ◌∷◌, Option, Some, None, refl, sym, subst, ap, inl, inr, filter_map, slice_get, append_assoc}
use Rattle.std.specs.Option.{option_map}
use Rattle.jobs.specs.Endings.{SeenCarried}
use Rattle.jobs.specs.Jobs.{SeenJob}
use Rattle.lane_jobs.specs.Lanes.{SeenCarrier, SeenLane}
use Rattle.manager_moves.specs.Runs as run
use Rattle.manager_moves.specs.Runs.{Event, Events}
use Rattle.run_traces.proofs.Planned.{gave_event}
use Rattle.run_traces.proofs.Steps.{events-append}
use Rattle.run_traces.proofs.Turns.{OldestThere, oldest_there}
use Rattle.run_traces.specs.Exchanges.{AreJobsOf}
use Rattle.run_traces.specs.Traces.{Called, Gave, Lined, Made, RunStep, RunTrace, Stopped, Took, event_of, events_of, pending_in}
use Rattle.s3_model.specs.Talks.{WireLog}
use Rattle.s3_model.specs.declared.outcomes.JobId.{JobId}
use Rattle.shared_lemmas.proofs.Clashes.{none_is_some, some_is}
use Rattle.shared_lemmas.proofs.Lists.{head_is, no_middle, tail_is}
use Rattle.shared_lemmas.proofs.Members.{found_or_not}
use Rattle.trace_laws.proofs.Own.{own_outcome}
use Rattle.trace_laws.specs.Joined.{IsJoined}
use Rattle.whole_runs.specs.Given.{ComeAsGiven, Jobs, WasGiven}

-- ---- the step of an event

pub record StepOf {X Y : Type 0} (f : X → Option Y) (xs : List X) (y : Y) (rest : List Y) : Type 0 where
  pub front : List X
  pub item : X
  pub back : List X
  pub is : xs ≡ front ++ item ∷ back
  pub gives : f item ≡ Some y
  pub rest_is : filter_map f back ≡ rest

step_later : {X Y : Type 0} (f : X → Option Y) (x : X) (xs : List X) (y : Y) (rest : List Y) → StepOf f xs y rest → StepOf f (x ∷ xs) y rest
step_later f x xs y rest at = record { front = x ∷ at.front; item = at.item; back = at.back; is = ap (λ zs. x ∷ zs) at.is; gives = at.gives; rest_is = at.rest_is }

module _ {X Y : Type 0} (f : X → Option Y) (y : Y) (rest : List Y) where
  step_here : (x : X) (xs : List X) (z : Y) → f x ≡ Some z → (first : List Y) → z ∷ filter_map f xs ≡ first ++ y ∷ rest → ((more : List Y) → filter_map f xs ≡ more ++ y ∷ rest → StepOf f xs y rest) → StepOf f (x ∷ xs) y rest
  step_here x xs z gives [] same later = record {
    front = [];
    item = x;
    back = xs;
    is = refl;
    gives = gives ∙ ap (λ (w : Y). Some w) (head_is z y (filter_map f xs) rest same);
    rest_is = tail_is z y (filter_map f xs) rest same;
  }
  step_here x xs z gives (w ∷ first) same later = step_later f x xs y rest (later first (tail_is z w (filter_map f xs) (first ++ y ∷ rest) same))

  pub step_of : (xs : List X) (first : List Y) → filter_map f xs ≡ first ++ y ∷ rest → StepOf f xs y rest
  step_of [] first e = absurd (no_middle first y rest e)
  step_of (x ∷ xs) first e = elim (found_or_not (f x)) [
    | inl none ↦ step_later f x xs y rest (step_of xs first (rw none at e))
    | inr some ↦ step_here x xs some.0 some.1 first (rw some.1 at e) (λ more g. step_of xs more g)
  ]

back_same : (lane other : ℕ) (c d : SeenCarried) → ◌≡◌ {A = Option Event} (Some (run.Back lane c)) (Some (run.Back other d)) → (lane ≡ other) × (c ≡ d)
back_same lane other c d e = (cc, cc)

-- a job comes back where its completion was taken
pub came_back : (x : RunStep) (lane : ℕ) (carried : SeenCarried) → event_of x ≡ Some (run.Back lane carried) → x ≡ Took lane carried
came_back (Took from c) lane carried e = by c.job.id.task e
  where
    taken : (from ≡ lane) × (c ≡ carried) → ◌≡◌ {A = RunStep} (Took from c) (Took lane carried)
    taken same = ap (λ (l : ℕ). Took l c) same.0 ∙ ap (λ (d : SeenCarried). Took lane d) same.1

    by : (task : Option ℕ) → option_map (λ (n : ℕ). run.Back from c) task ≡ Some (run.Back lane carried) → Took from c ≡ Took lane carried
    by None f = absurd (none_is_some (run.Back lane carried) f)
    by (Some n) f = taken (back_same from lane c carried f)
came_back (Gave to job) lane carried e = absurd (by job.id.task e)
  where
    by : (task : Option ℕ) → option_map (λ (n : ℕ). run.Sent n job.id.op job.id.number to) task ≡ Some (run.Back lane carried) → ⊥
    by None f = none_is_some (run.Back lane carried) f
    by (Some n) f = cc
came_back (Called task called result steps notes) lane carried e = cc
came_back (Made fits) lane carried e = cc
came_back Lined lane carried e = cc
came_back (Stopped reason) lane carried e = cc

-- ---- the job of a completion

module _ {W : Type 0} (seen : W → Option WireLog) (carrier : SeenCarrier) (trace : RunTrace) (befores afters : List (SeenLane W)) (jobs : Jobs) (joined : IsJoined seen carrier trace befores afters) (are : AreJobsOf trace jobs) where
  was_given : (later before : RunTrace) (lane n : ℕ) (carried : SeenCarried) → trace ≡ later ++ Took lane carried ∷ before → carried.job.id.task ≡ Some n → WasGiven jobs n (events_of before) carried
  was_given later before lane n carried is task =
      let own = own_outcome seen carrier trace befores afters joined later before lane carried is in
      given_by own.job own.same.id own.same.what (oldest_there trace later before lane carried joined.trace_is is) own.oldest
    where
      given_by : (job : SeenJob) → carried.job.id ≡ job.id → carried.job.what ≡ job.what → (old : OldestThere trace before lane) → slice_get (pending_in lane before) 0 ≡ Some job → WasGiven jobs n (events_of before) carried
      given_by job id what old oldest = record {
        since = events_of old.at.later;
        first = events_of old.at.before;
        lane = lane;
        is =
            ap (λ (t : RunTrace). events_of t) old.at.is ∙ events-append old.at.later (Gave lane old.job ∷ old.at.before)
            ∙ ap (λ (es : Events). events_of old.at.later ++ es) (gave_event lane old.job old.at.before n of_task)
            ∙ ap (λ (i : JobId). events_of old.at.later ++ run.Sent n i.op i.number lane ∷ events_of old.at.before) (sym name);
        what = what ∙ ap (λ (j : SeenJob). j.what) (sym same ∙ sym job_there);
      }
        where
          same : old.job ≡ job
          same = some_is old.job job (sym old.oldest ∙ oldest)

          name : carried.job.id ≡ old.job.id
          name = id ∙ ap (λ (j : SeenJob). j.id) (sym same)

          of_task : old.job.id.task ≡ Some n
          of_task = ap (λ (i : JobId). i.task) (sym name) ∙ task

          job_there : jobs (events_of old.at.before) ≡ old.job
          job_there =
              are (later ++ Took lane carried ∷ old.at.later) old.at.before lane n old.job
              (is ∙ ap (λ (t : RunTrace). later ++ Took lane carried ∷ t) old.at.is ∙ sym (append_assoc later (Took lane carried ∷ old.at.later) (Gave lane old.job ∷ old.at.before)))
              of_task

  pub come_as_given : ComeAsGiven (events_of trace) jobs
  come_as_given later before n lane carried e task =
      let at = step_of event_of (run.Back lane carried) before trace later e in
      subst (λ (es : Events). WasGiven jobs n es carried) at.rest_is
      (was_given at.front at.back lane n carried (at.is ∙ ap (λ (x : RunStep). at.front ++ x ∷ at.back) (came_back at.item lane carried at.gives)) task)
