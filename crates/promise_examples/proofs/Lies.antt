-- Outcomes that the wires of a run do not bear out are refused.
use Rattle.std.proofs.Common.{◌≡◌, ◌++◌, ℕ, false, List, [], ◌∷◌, Some, refl, inl, inr, sym, subst, Contains, slice_get}
use Rattle.std.specs.Prelude.{codes}
use Rattle.std.proofs.lemmas.List.Sorted.{IsPermutation-sym, Contains-permutation}
use Rattle.s3_model.specs.declared.requests.Ask.{Ask}
use Rattle.s3_model.specs.declared.requests.Op.TheVariants as op
use Rattle.s3_model.specs.declared.answers.Class.{Class}
use Rattle.s3_model.specs.declared.answers.Class.TheVariants as class
use Rattle.s3_model.specs.declared.answers.Listed.{Listed}
use Rattle.s3_model.specs.declared.answers.Reply.{Reply}
use Rattle.s3_model.specs.declared.answers.Why.TheVariants as why
use Rattle.s3_model.specs.declared.outcomes.Cause.{Cause}
use Rattle.s3_model.specs.declared.outcomes.Cause.TheVariants as cause
use Rattle.s3_model.specs.declared.outcomes.Outcome.{Outcome}
use Rattle.s3_model.specs.declared.outcomes.Outcome.TheVariants as outcome
use Rattle.s3_model.specs.declared.tasks.Task.{Task}
use Rattle.s3_model.specs.declared.tries.Mark.{Mark}
use Rattle.s3_model.specs.declared.tries.Mark.TheVariants as mark
use Rattle.s3_model.specs.Talks.{Talk}
use Rattle.job_terms.specs.Dispatches.{Attempt, Dispatched, dispatches}
use Rattle.run_promise.specs.Outcomes.{HasOutcome, HasDeciding, IsLastCause}
use Rattle.run_promise.specs.Schedule.{IsSchedule}
use Rattle.shared_lemmas.proofs.Clashes.{false_true as never}
use Rattle.promise_examples.specs.Everything.{create_job, part_job, complete_job, create_answered, upload}
use Rattle.promise_examples.specs.FailedUpload.{failed_run, other_lost}
use Rattle.promise_examples.specs.GivenAgain.{put_job}
use Rattle.promise_examples.specs.Lies.{IsLie, LiesAreRefused, denied_once, lost_then_denied, lost_twice}
use Rattle.promise_examples.specs.Orders.{abort_job, part_denied, abort_answered}
use Rattle.promise_examples.specs.Reading.{Reads, HasNoStatus, NeverFailed}
use Rattle.promise_examples.specs.Refused.{task, whole_run, stored_at, lost_at, denied_at}
use Rattle.promise_examples.specs.Runs.{Example}
use Rattle.promise_examples.proofs.Concrete.{at, contains_of, each, has_middle, slot, Slots}
use Rattle.promise_examples.proofs.Repeats.{other_job}
use Rattle.promise_examples.proofs.Scheduling as scheduling
use Rattle.promise_examples.proofs.Shown.{made, Whatever, of_shown}
use Rattle.promise_examples.proofs.Readings.{uncertain_success, refusal_success}

messages : (a b c d : List ℕ) → class.Refusal a b ≡ class.Refusal c d → b ≡ d
messages a b c d e = cc

refusal_uncertain : (code message : List ℕ) → class.Uncertain why.WireFailed ≡ class.Refusal code message → ⊥
refusal_uncertain code message e = cc

success_refusal : {said : Reply} (code message : List ℕ) → class.Success said ≡ class.Refusal code message → ⊥
success_refusal code message e = cc

no_message : [] ≡ codes "Nonsense" → ⊥
no_message e = cc

module _ (page_of : List ℕ → Listed) where
  abbrev Shows : Ask → ℕ → Talk → Class → List ℕ → Type 0
  Shows = Reads page_of

  abbrev Denies : Example → Task → Outcome → List Dispatched → Type 0
  Denies e of_task how xs = (coming : List Dispatched) → IsSchedule Shows e.setting (λ planning. planning ≡ []) xs coming → HasOutcome Shows HasNoStatus NeverFailed e.setting xs coming 0 of_task how → ⊥

  lie : (e : Example) (of_task : Task) (how : Outcome) → Whatever (dispatches e.journal e.logs) (Denies e of_task how) → IsLie page_of e of_task how
  lie e of_task how all dispatched coming schedule carried has_it = of_shown (dispatches e.journal e.logs) (Denies e of_task how) all dispatched carried.shown coming schedule has_it

  -- ---- a single Put

  abbrev put_as : List Attempt → Ask → List ℕ → ℕ → ℕ → Dispatched
  put_as attempts asked body limit size = made (record { job = put_job; lane = 0; given_at = 0; came_at = Some 1; earlier = 0; is_second = false; attempts = attempts }) asked body limit size

  abbrev stored : List Attempt
  stored = record { mark = mark.Success; talk = stored_at 5 } ∷ []

  abbrev was_lost : ℕ → Attempt
  was_lost moment = record { mark = mark.Uncertain; talk = lost_at moment }

  abbrev denied : List Attempt
  denied = was_lost 5 ∷ record { mark = mark.Refusal; talk = denied_at 6 } ∷ []

  abbrev refused : List Attempt
  refused = record { mark = mark.Refusal; talk = denied_at 5 } ∷ []

  abbrev lost : List Attempt
  lost = was_lost 5 ∷ was_lost 6 ∷ []

  module _ (asked : Ask) (body : List ℕ) (limit size : ℕ) (coming : List Dispatched) where
    abbrev Decides : List Attempt → Mark → Type 0
    Decides attempts of_mark = HasDeciding Shows HasNoStatus NeverFailed whole_run.setting (put_as attempts asked body limit size ∷ []) coming 0 task of_mark

    decided : Decides stored mark.Success
    decided = (put_as stored asked body limit size, at (put_as stored asked body limit size ∷ []) 0 (put_as stored asked body limit size) refl, (tt, refl), (0, record { mark = mark.Success; talk = stored_at 5 }, refl, refl))

    open_denied : Decides denied mark.Uncertain
    open_denied = (put_as denied asked body limit size, at (put_as denied asked body limit size ∷ []) 0 (put_as denied asked body limit size) refl, (tt, refl), (0, was_lost 5, refl, refl))

    open_lost : Decides lost mark.Uncertain
    open_lost = (put_as lost asked body limit size, at (put_as lost asked body limit size ∷ []) 0 (put_as lost asked body limit size) refl, (tt, refl), (0, was_lost 5, refl, refl))

    no_success : (attempts : List Attempt) → Slots (λ (k : ℕ) (a : Attempt). a.mark ≡ mark.Success → ⊥) attempts → Decides attempts mark.Success → ⊥
    no_success attempts none decides =
        each (λ (c : Dispatched). (k : ℕ) (a : Attempt) → Some a ≡ Some a → (slice_get c.dispatch.attempts k ≡ Some a) → a.mark ≡ mark.Success → ⊥) (put_as attempts asked body limit size ∷ [])
        ((λ k a same here marked. slot (λ (n : ℕ) (b : Attempt). b.mark ≡ mark.Success → ⊥) attempts none k a here marked), tt) decides.0 decides.1 decides.3.0 decides.3.1 refl decides.3.2 decides.3.3

    refused_none : Decides refused mark.Success → ⊥
    refused_none = no_success refused (refusal_success, tt)

    denied_none : Decides denied mark.Success → ⊥
    denied_none = no_success denied (uncertain_success, (refusal_success, tt))

    lost_none : Decides lost mark.Success → ⊥
    lost_none = no_success lost (uncertain_success, (uncertain_success, tt))

  -- ---- the upload that failed

  abbrev create_as : Ask → List ℕ → ℕ → ℕ → Dispatched
  create_as asked body limit size = made (record { job = create_job; lane = 0; given_at = 0; came_at = Some 1; earlier = 0; is_second = false; attempts = record { mark = mark.Success; talk = create_answered } ∷ [] }) asked body limit size

  abbrev first_as : Ask → List ℕ → ℕ → ℕ → Dispatched
  first_as asked body limit size = made (record { job = part_job 1; lane = 0; given_at = 2; came_at = Some 4; earlier = 0; is_second = false; attempts = record { mark = mark.Refusal; talk = part_denied } ∷ [] }) asked body limit size

  abbrev second_as : Ask → List ℕ → ℕ → ℕ → Dispatched
  second_as asked body limit size = made (record { job = part_job 2; lane = 1; given_at = 3; came_at = Some 5; earlier = 0; is_second = false; attempts = record { mark = mark.Uncertain; talk = other_lost } ∷ [] }) asked body limit size

  abbrev abort_as : Ask → List ℕ → ℕ → ℕ → Dispatched
  abort_as asked body limit size = made (record { job = abort_job; lane = 0; given_at = 6; came_at = Some 7; earlier = 0; is_second = false; attempts = record { mark = mark.Success; talk = abort_answered } ∷ [] }) asked body limit size

  module _ (a1 : Ask) (b1 : List ℕ) (l1 s1 : ℕ) (a2 : Ask) (b2 : List ℕ) (l2 s2 : ℕ) (a3 : Ask) (b3 : List ℕ) (l3 s3 : ℕ) (a4 : Ask) (b4 : List ℕ) (l4 s4 : ℕ) (coming : List Dispatched) where
    abbrev jobs : List Dispatched
    jobs = create_as a1 b1 l1 s1 ∷ first_as a2 b2 l2 s2 ∷ second_as a3 b3 l3 s3 ∷ abort_as a4 b4 l4 s4 ∷ []

    abbrev Sched : Type 0
    Sched = IsSchedule Shows failed_run.setting (λ planning. planning ≡ []) jobs coming

    abbrev Is : Outcome → Type 0
    Is how = HasOutcome Shows HasNoStatus NeverFailed failed_run.setting jobs coming 0 upload how

    -- what came is one of the jobs
    came_known : Sched → (c : Dispatched) (front later : List Dispatched) → coming ≡ front ++ c ∷ later → Contains jobs c
    came_known schedule c front later e = Contains-permutation coming jobs c (IsPermutation-sym jobs coming schedule.is_coming) (subst (λ (xs : List Dispatched). Contains xs c) (sym e) (contains_of (front ++ c ∷ later) c (has_middle front c later)))

    abbrev Causes : Cause → Dispatched → Type 0
    Causes reason c = IsLastCause Shows HasNoStatus c reason

    on_other_code : Sched → Is (outcome.Failed (cause.Service op.Part (codes "999") (codes "Nonsense"))) → ⊥
    on_other_code schedule failed =
        each (λ (c : Dispatched). Causes (cause.Service op.Part (codes "999") (codes "Nonsense")) c → ⊥) jobs
        ((λ is. scheduling.other_op op.Part op.Create refl is.0), ((λ is. no_message (messages _ _ _ _ is.1.1.0)), ((λ is. refusal_uncertain (codes "999") (codes "Nonsense") is.1.1.0), ((λ is. scheduling.other_op op.Part op.Abort refl is.0), tt))))
        failed.2.0.0 (came_known schedule failed.2.0.0 failed.2.0.1.0.0.0 failed.2.0.1.0.0.1 failed.2.0.1.0.0.2) failed.2.0.2

    on_other_op : Sched → Is (outcome.Failed (cause.Service op.Create (codes "AccessDenied") [])) → ⊥
    on_other_op schedule failed =
        each (λ (c : Dispatched). Causes (cause.Service op.Create (codes "AccessDenied") []) c → ⊥) jobs
        ((λ is. success_refusal (codes "AccessDenied") [] is.1.1.0), ((λ is. scheduling.other_op op.Create op.Part refl is.0), ((λ is. scheduling.other_op op.Create op.Part refl is.0), ((λ is. scheduling.other_op op.Create op.Abort refl is.0), tt))))
        failed.2.0.0 (came_known schedule failed.2.0.0 failed.2.0.1.0.0.0 failed.2.0.1.0.0.1 failed.2.0.1.0.0.2) failed.2.0.2

    none_decides : (of_mark : Mark) → HasDeciding Shows HasNoStatus NeverFailed failed_run.setting jobs coming 0 upload of_mark → ⊥
    none_decides of_mark decides =
        each (λ (c : Dispatched). c.dispatch.job ≡ complete_job → ⊥) jobs (other_job create_job complete_job refl, (other_job (part_job 1) complete_job refl, (other_job (part_job 2) complete_job refl, (other_job abort_job complete_job refl, tt))))
        decides.0 decides.1 decides.2.1

  pub lies : LiesAreRefused page_of
  lies = record {
    stored_failed = λ reason. lie whole_run task (outcome.Failed reason) (λ asked body limit size coming schedule how. how.0 (decided asked body limit size coming));
    stored_unknown = λ reason. lie whole_run task (outcome.Unknown reason) (λ asked body limit size coming schedule how. how.0.1 (decided asked body limit size coming));
    stored_skipped = lie whole_run task outcome.Skipped (λ asked body limit size coming schedule how. elim how.1 [ inl refused ↦ never refused.0 | inr there ↦ never there.0 ]);
    refused_done = lie denied_once task outcome.Done (λ asked body limit size coming schedule how. refused_none asked body limit size coming how.1);
    denied_failed = λ reason. lie lost_then_denied task (outcome.Failed reason)
        (λ asked body limit size coming schedule how. how.1 (open_denied asked body limit size coming, denied_none asked body limit size coming));
    denied_done = lie lost_then_denied task outcome.Done (λ asked body limit size coming schedule how. denied_none asked body limit size coming how.1);
    lost_failed = λ reason. lie lost_twice task (outcome.Failed reason) (λ asked body limit size coming schedule how. how.1 (open_lost asked body limit size coming, lost_none asked body limit size coming));
    lost_done = lie lost_twice task outcome.Done (λ asked body limit size coming schedule how. lost_none asked body limit size coming how.1);
    other_code = lie failed_run upload (outcome.Failed (cause.Service op.Part (codes "999") (codes "Nonsense")))
        (λ a1 b1 l1 s1 a2 b2 l2 s2 a3 b3 l3 s3 a4 b4 l4 s4 coming schedule how. on_other_code a1 b1 l1 s1 a2 b2 l2 s2 a3 b3 l3 s3 a4 b4 l4 s4 coming schedule how);
    other_op = lie failed_run upload (outcome.Failed (cause.Service op.Create (codes "AccessDenied") []))
        (λ a1 b1 l1 s1 a2 b2 l2 s2 a3 b3 l3 s3 a4 b4 l4 s4 coming schedule how. on_other_op a1 b1 l1 s1 a2 b2 l2 s2 a3 b3 l3 s3 a4 b4 l4 s4 coming schedule how);
    failed_done = lie failed_run upload outcome.Done
        (λ a1 b1 l1 s1 a2 b2 l2 s2 a3 b3 l3 s3 a4 b4 l4 s4 coming schedule how. none_decides a1 b1 l1 s1 a2 b2 l2 s2 a3 b3 l3 s3 a4 b4 l4 s4 coming mark.Success how.1);
    failed_unknown = λ reason. lie failed_run upload (outcome.Unknown reason)
        (λ a1 b1 l1 s1 a2 b2 l2 s2 a3 b3 l3 s3 a4 b4 l4 s4 coming schedule how. none_decides a1 b1 l1 s1 a2 b2 l2 s2 a3 b3 l3 s3 a4 b4 l4 s4 coming mark.Uncertain how.0.0);
  }
