-- A run with its planning keeps to the whole schedule.
use Rattle.std.proofs.Common.{◌≡◌, ◌≢◌, ◌∙◌, ◌⊎◌, ◌<◌, ℕ, zero, suc, Bool, true, false, List, [], ◌∷◌, Option, Some, None, Contains, refl, sym, ap, inl, inr, arith, filter, slice_get}
use Rattle.std.specs.Prelude.{IsPermutation, IsSome, if◌then◌else◌, is_some, not}
use Rattle.run_promise.specs.Dispatches.{IsSuccessLast}
use Rattle.job_terms.specs.Dispatches.{Dispatched, last_of}
use Rattle.job_terms.specs.Ops.{IsPlanning, op_of}
use Rattle.run_promise.specs.Schedule.{IsBefore, IsBeforeAny, IsFailed, IsSchedule, Setting, is_planning, planning_of}
use Rattle.s3_model.specs.Talks.{Talk}
use Rattle.s3_model.specs.declared.answers.Class.{Class}
use Rattle.s3_model.specs.declared.outcomes.JobId.{JobId}
use Rattle.s3_model.specs.declared.requests.Ask.{Ask}
use Rattle.s3_model.specs.declared.requests.Ask.TheVariants as ask
use Rattle.s3_model.specs.declared.requests.Op.TheVariants as op
use Rattle.shared_lemmas.proofs.Clashes.{none_is_some, some_is}
use Rattle.shared_lemmas.proofs.Members.{contains_of, has, has-filter, has_at}
use Rattle.task_progress.proofs.Endings.{no}
use Rattle.task_schedule.proofs.Failures.{all_pairs}
use Rattle.task_schedule.proofs.Marks.{index_of, pair_of}
use Rattle.task_schedule.specs.Journals.{ComeInOrder, KeepsSchedule}
use Rattle.run_schedule.proofs.Whole.{runs_keep_schedule}
use Rattle.run_schedule.specs.Runs.{KeepsPlanning, RunsAreScheduled}

-- ---- a pair of a list that passes a test

module _ {X : Type 0} (test : X → Bool) where
  -- the place of a member that passes among those that do
  placed : (xs : List X) (i : ℕ) (x : X) → slice_get xs i ≡ Some x → test x ≡ true → (k : ℕ) × (slice_get (filter test xs) k ≡ Some x)
  placed xs i x e passes = index_of (filter test xs) x (contains_of (filter test xs) x (has-filter test xs x passes (has_at xs i x e)))

  pub pair_among : (xs : List X) (i j : ℕ) (a b : X) → i < j → slice_get xs i ≡ Some a → slice_get xs j ≡ Some b → test a ≡ true → test b ≡ true
      → (k : ℕ) × (l : ℕ) × (k < l) × (slice_get (filter test xs) k ≡ Some a) × (slice_get (filter test xs) l ≡ Some b)
  pair_among [] i j a b less e f p q = absurd (none_is_some a e)
  pair_among (x ∷ xs) zero zero a b less e f p q = absurd (omega arith)
  pair_among (x ∷ xs) (suc i) zero a b less e f p q = absurd (omega arith)
  pair_among (x ∷ xs) zero (suc j) a b less e f p q = by (test x) (ap test (some_is x a e) ∙ p) (placed xs j b f q)
    where
      by : (t : Bool) → t ≡ true → (l : ℕ) × (slice_get (filter test xs) l ≡ Some b)
          → (k : ℕ) × (l : ℕ) × (k < l) × (slice_get (if t then x ∷ filter test xs else filter test xs) k ≡ Some a) × (slice_get (if t then x ∷ filter test xs else filter test xs) l ≡ Some b)
      by true is found = (0, suc found.0, omega arith, e, found.1)
      by false is found = no is
  pair_among (x ∷ xs) (suc i) (suc j) a b less e f p q = by (test x) (pair_among xs i j a b (omega arith) e f p q)
    where
      by : (t : Bool) → (k : ℕ) × (l : ℕ) × (k < l) × (slice_get (filter test xs) k ≡ Some a) × (slice_get (filter test xs) l ≡ Some b)
          → (k : ℕ) × (l : ℕ) × (k < l) × (slice_get (if t then x ∷ filter test xs else filter test xs) k ≡ Some a) × (slice_get (if t then x ∷ filter test xs else filter test xs) l ≡ Some b)
      by true found = let l = found.2 in (suc found.0, suc found.1, omega arith, found.3, found.4)
      by false found = found

task_or_none : (t : Option ℕ) → (t ≡ None) ⊎ (is_some t ≡ true)
task_or_none None = inl refl
task_or_none (Some n) = inr refl

not_planned : (asked : Ask) → IsPlanning asked → op_of asked ≡ op.Abort → ⊥
not_planned (ask.Head bucket key) p e = cc
not_planned (ask.List bucket prefix delimited token) p e = cc
not_planned ask.Buckets p e = cc
not_planned asked p e = absurd p

module _ (Shows : Ask → ℕ → Talk → Class → List ℕ → Type 0) (setting : Setting) (Plans : List Dispatched → Type 0) (dispatched coming : List Dispatched)
    (keeps : KeepsSchedule Shows setting dispatched coming) (plan : KeepsPlanning Shows setting Plans dispatched) where
  planning : (c : Dispatched) → c.dispatch.job.task ≡ None → is_planning c ≡ true
  planning c none = ap (λ (t : Option ℕ). not (is_some t)) none

  -- no planning job is given twice
  never_twice : (i j : ℕ) (a b : Dispatched) → i < j → slice_get dispatched i ≡ Some a → slice_get dispatched j ≡ Some b → a.dispatch.job ≡ b.dispatch.job → a.dispatch.job.task ≡ None → ⊥
  never_twice i j a b less e f same none =
      let found = pair_among is_planning dispatched i j a b less e f (planning a none) (planning b (ap (λ (d : JobId). d.task) (sym same) ∙ none)) in
      let first = ap (λ (d : JobId). d.number) (plan.numbered found.0 a found.3).0 in
      let second = ap (λ (d : JobId). d.number) (plan.numbered found.1 b found.4).0 in
      apart found.0 found.1 found.2 (sym first ∙ ap (λ (d : JobId). d.number) same ∙ second)
    where
      apart : (k l : ℕ) → k < l → k ≡ l → ⊥
      apart k l m g = omega arith

  abbrev Again : Dispatched → Dispatched → Type 0
  Again a b = a.dispatch.job ≡ b.dispatch.job
      → IsBefore a.dispatch.came_at b.dispatch.given_at × ¬ (IsSuccessLast (last_of a.dispatch.attempts))
      × IsBeforeAny (Some b.dispatch.given_at) setting.cancelled_at
      × ((failed : Dispatched) → IsFailed Shows setting coming failed → failed.dispatch.job.task ≡ a.dispatch.job.task
      → IsBeforeAny a.dispatch.came_at failed.dispatch.came_at)
      × IsSome a.dispatch.job.task × (a.dispatch.job.op ≢ op.Abort)

  abbrev OfTask : Dispatched → Dispatched → Type 0
  OfTask a b = IsSome a.dispatch.job.task → a.dispatch.job ≡ b.dispatch.job
      → IsBefore a.dispatch.came_at b.dispatch.given_at × ¬ (IsSuccessLast (last_of a.dispatch.attempts))
      × IsBeforeAny (Some b.dispatch.given_at) setting.cancelled_at
      × ((failed : Dispatched) → IsFailed Shows setting coming failed → failed.dispatch.job.task ≡ a.dispatch.job.task
      → IsBeforeAny a.dispatch.came_at failed.dispatch.came_at)
      × (a.dispatch.job.op ≢ op.Abort)

  twice_at : (i j : ℕ) (a b : Dispatched) → i < j → slice_get dispatched i ≡ Some a → slice_get dispatched j ≡ Some b → Again a b
  twice_at i j a b less e f same = elim (task_or_none a.dispatch.job.task) [
    | inl none ↦ absurd (never_twice i j a b less e f same none)
    | inr some ↦ let all = pair_of OfTask dispatched keeps.twice i j a b less e f some same in (all.0, all.1, all.2, all.3, some, all.4)
  ]

  third : (a b c : Dispatched) (i j k : ℕ) → i < j → j < k → slice_get dispatched i ≡ Some a → slice_get dispatched j ≡ Some b → slice_get dispatched k ≡ Some c
      → a.dispatch.job ≡ b.dispatch.job → b.dispatch.job ≡ c.dispatch.job → ⊥
  third a b c i j k less more e f g same next = elim (task_or_none a.dispatch.job.task) [
    | inl none ↦ never_twice i j a b less e f same none
    | inr some ↦ keeps.no_third a b c i j k less more e f g some same next
  ]

  last : (a c : Dispatched) → Contains dispatched a → Contains dispatched c → a.dispatch.job.op ≡ op.Abort → c.dispatch.job.task ≡ a.dispatch.job.task → c.dispatch.job.op ≢ op.Abort
      → IsBefore c.dispatch.came_at a.dispatch.given_at
  last a c known other is same apart = elim (task_or_none a.dispatch.job.task) [
    | inl none ↦ absurd (no_abort none)
    | inr some ↦ keeps.abort_last a c known other some is same apart
  ]
    where
      no_abort : a.dispatch.job.task ≡ None → ⊥
      no_abort none =
          let place = index_of (planning_of dispatched) a (contains_of (planning_of dispatched) a (has-filter is_planning dispatched a (planning a none) (has dispatched a known))) in
          not_planned a.ask (plan.questions a known none) (sym (ap (λ (d : JobId). d.op) (plan.numbered place.0 a place.1).0) ∙ is)

  pub scheduled : ComeInOrder coming → IsPermutation dispatched coming → IsSchedule Shows setting Plans dispatched coming
  scheduled in_order is_coming = record {
    is_coming = is_coming;
    in_order = in_order;
    asks = keeps.asks;
    plans = plan.plans;
    planned = plan.planned;
    numbered = plan.numbered;
    one_by_one = plan.one_by_one;
    dry = plan.dry;
    twice = all_pairs Again dispatched twice_at;
    no_third = third;
    stops = λ failed c is some apart known same after. keeps.stops failed c is some known same after;
    abort_last = last;
    aborts = λ n id end all created. keeps.aborts n id end created all;
    completed_stays = keeps.completed_stays;
    moves_last = keeps.moves_last;
  }

pub runs_are_scheduled : (Shows : Ask → ℕ → Talk → Class → List ℕ → Type 0) (Plans : List Dispatched → Type 0) → RunsAreScheduled Shows Plans
runs_are_scheduled Shows Plans request_text host port s setting planning events logs notes dispatched coming one r plan =
    scheduled Shows setting Plans dispatched coming (runs_keep_schedule Shows request_text host port s setting planning events logs notes dispatched coming one r) plan r.in_order r.is_coming
