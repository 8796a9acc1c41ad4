-- Jobs that are written out, none of them an Abort: when they keep to the schedule.
use Rattle.std.proofs.Common.{◌≡◌, ◌≢◌, ◌∙◌, ◌⊎◌, ◌==◌, ℕ, Bool, true, false, List, [], Option, Some, None, sym, ap, subst, inl, inr, Contains, slice_get, arith}
use Rattle.std.specs.Prelude.{IsPermutation, IsSome}
use Rattle.s3_model.specs.declared.requests.Ask.{Ask}
use Rattle.s3_model.specs.declared.requests.Op.{Op}
use Rattle.s3_model.specs.declared.requests.Op.TheVariants as op
use Rattle.s3_model.specs.declared.answers.Class.{Class}
use Rattle.s3_model.specs.declared.answers.Reply.TheVariants as reply
use Rattle.s3_model.specs.declared.outcomes.JobId.{JobId}
use Rattle.s3_model.specs.declared.tasks.Task.{Task}
use Rattle.s3_model.specs.Parts.{HasPieces}
use Rattle.s3_model.specs.Talks.{Talk}
use Rattle.run_promise.specs.Dispatches.{IsCompletedWell, IsCut, IsFailing, IsSuccessLast}
use Rattle.job_terms.specs.Dispatches.{Dispatched, last_of}
use Rattle.job_terms.specs.Ops.{is_op, op_number, op_of}
use Rattle.run_promise.specs.Schedule.{Setting, IsSchedule, IsBefore, IsBeforeAny, IsTaskAsk, IsUpload, IsDecided, IsFailed, IsStopped, gained_before, is_small, limit_of, most_body, planning_of, source_bytes}
use Rattle.job_terms.specs.Jobs.{job_of}
use Rattle.promise_examples.proofs.Concrete.{Each, each, Pairs, pairs, Slots, slot, Tails, tail_at}
use Rattle.promise_examples.proofs.Repeats.{Repeats, all_repeats, Seconds, no_third}

same_op_number : (n : ℕ) → (n == n) ≡ true
same_op_number n = grind arith

-- two ops that the test tells apart
pub other_op : (a b : Op) → is_op a b ≡ false → a ≡ b → ⊥
other_op a b e same = clash (is_op a b) (sym (ap (is_op a) same) ∙ same_op_number (op_number a)) e
  where
    clash : (t : Bool) → t ≡ true → t ≡ false → ⊥
    clash t p q = cc

-- ---- failures

module _ (Shows : Ask → ℕ → Talk → Class → List ℕ → Type 0) (s : Setting) (May : Dispatched → Type 0) where
  -- it was cut, or did what it was to do, or is one that may fail
  abbrev pub FailureRule : Dispatched → List Dispatched → Type 0
  FailureRule c later = IsCut Shows s.config.attempts c later (IsStopped s c.dispatch.job.task ⊎ IsFailing Shows s.config.attempts c.dispatch.job.task (IsStopped s c.dispatch.job.task) later)
      ⊎ IsCompletedWell Shows c ⊎ May c

  pub failures : (coming : List Dispatched) → Tails FailureRule coming → (failed : Dispatched) → IsFailed Shows s coming failed → May failed
  failures coming all failed is_failed = elim (tail_at FailureRule coming all is_failed.0 failed is_failed.1 is_failed.2) [
    | inl is_cut ↦ absurd (is_failed.3 is_cut)
    | inr rest ↦ elim rest [ inl well ↦ absurd (is_failed.4 well) | inr may ↦ may ]
  ]

-- ---- the schedule

module _ (Shows : Ask → ℕ → Talk → Class → List ℕ → Type 0) (s : Setting) (Plans : List Dispatched → Type 0) (dispatched coming : List Dispatched) where
  -- ---- the clauses, by what is written out

  abbrev pub AsksFor : Dispatched → ℕ → Type 0
  AsksFor c n = (task : Task) × (piece : ℕ) × (count : ℕ) × (slice_get s.tasks n ≡ Some task) × HasPieces s.config s.limits task.kind task.size piece count × (c.size ≡ task.size)
      × (c.limit ≡ limit_of task.size piece c.dispatch.job.number c.ask)
      × IsTaskAsk (gained_before Shows dispatched c.dispatch.given_at) task (record { number = n; bytes = source_bytes s.held task.source; piece = piece; count = count })
      task.kind (is_small s task) c.dispatch.job.op c.dispatch.job.number c.ask c.body

  abbrev pub AskRule : Dispatched → Option ℕ → Type 0
  AskRule c None = (c.limit ≡ most_body) × (c.body ≡ [])
  AskRule c (Some n) = AsksFor c n

  abbrev pub TwiceRule : Dispatched → Dispatched → Type 0
  TwiceRule a b = IsBefore a.dispatch.came_at b.dispatch.given_at × ¬ (IsSuccessLast (last_of a.dispatch.attempts)) × IsBeforeAny (Some b.dispatch.given_at) s.cancelled_at
      × ((failed : Dispatched) → IsFailed Shows s coming failed → failed.dispatch.job.task ≡ a.dispatch.job.task → IsBeforeAny a.dispatch.came_at failed.dispatch.came_at)
      × IsSome a.dispatch.job.task × (a.dispatch.job.op ≢ op.Abort)

  abbrev pub MoveRule : Dispatched → Type 0
  MoveRule c = (n : ℕ) (task : Task) → c.dispatch.job.task ≡ Some n → slice_get s.tasks n ≡ Some task → task.moves ≡ true → c.dispatch.job.op ≡ op.Delete
      → IsDecided s task n (gained_before Shows dispatched c.dispatch.given_at)

  -- an upload that was created came to its end
  abbrev pub CompletesEach : Type 0
  CompletesEach = (n : ℕ) (id : List ℕ) (end : ℕ) → ((c : Dispatched) → Contains dispatched c → IsBefore c.dispatch.came_at end) → IsUpload (gained_before Shows dispatched end) n id
      → gained_before Shows dispatched end (job_of n op.Complete 0) reply.Completed

  abbrev pub StopsAll : Type 0
  StopsAll = (failed c : Dispatched) → IsFailed Shows s coming failed → IsSome failed.dispatch.job.task → failed.dispatch.job.op ≢ op.Abort → Contains dispatched c
      → c.dispatch.job.task ≡ failed.dispatch.job.task → IsBefore failed.dispatch.came_at c.dispatch.given_at → c.dispatch.job.op ≡ op.Abort

  abbrev pub IsNumbered : Dispatched → ℕ → Type 0
  IsNumbered c k = (c.dispatch.job ≡ record { task = None; op = op_of c.ask; number = k }) × (c.dispatch.lane ≡ 0)

  pub record IsPlanned : Type 0 where
    pub is_coming : IsPermutation dispatched coming
    pub in_order : Pairs (λ (a b : Dispatched). IsBeforeAny a.dispatch.came_at b.dispatch.came_at) coming
    pub asks : Each (λ (c : Dispatched). AskRule c c.dispatch.job.task) dispatched
    pub plans : Plans (planning_of dispatched)
    pub numbered : Slots (λ k c. IsNumbered c k) (planning_of dispatched)
    pub one_by_one : Pairs (λ (a b : Dispatched). IsBefore a.dispatch.came_at b.dispatch.given_at) (planning_of dispatched)
    pub carried_out : s.dryrun ≡ false
    pub twice : Repeats TwiceRule dispatched
    pub seconds : Seconds dispatched
    pub stops : StopsAll
    pub no_abort : Each (λ (c : Dispatched). is_op c.dispatch.job.op op.Abort ≡ false) dispatched
    pub completes : CompletesEach
    pub moves_last : Each MoveRule dispatched

  ask_of : (c : Dispatched) (task : Option ℕ) (n : ℕ) → AskRule c task → task ≡ Some n → AsksFor c n
  ask_of c task n rule e = subst (AskRule c) e rule

  plan_of : (c : Dispatched) (task : Option ℕ) → AskRule c task → task ≡ None → (c.limit ≡ most_body) × (c.body ≡ [])
  plan_of c task rule e = subst (AskRule c) e rule

  module _ (w : IsPlanned) where
    none_aborts : (c : Dispatched) → Contains dispatched c → c.dispatch.job.op ≡ op.Abort → ⊥
    none_aborts c known e = other_op c.dispatch.job.op op.Abort (each (λ (d : Dispatched). is_op d.dispatch.job.op op.Abort ≡ false) dispatched w.no_abort c known) e

    ask_rule : (c : Dispatched) → Contains dispatched c → AskRule c c.dispatch.job.task
    ask_rule c known = each (λ (d : Dispatched). AskRule d d.dispatch.job.task) dispatched w.asks c known

    is_dry : s.dryrun ≡ true → ⊥
    is_dry e = clash s.dryrun e w.carried_out
      where
        clash : (t : Bool) → t ≡ true → t ≡ false → ⊥
        clash t p q = cc

    pub scheduled : IsSchedule Shows s Plans dispatched coming
    scheduled = record {
      is_coming = w.is_coming;
      in_order = pairs (λ (a b : Dispatched). IsBeforeAny a.dispatch.came_at b.dispatch.came_at) coming w.in_order;
      asks = λ c n known of_task. ask_of c c.dispatch.job.task n (ask_rule c known) of_task;
      plans = w.plans;
      planned = λ c known of_none. plan_of c c.dispatch.job.task (ask_rule c known) of_none;
      numbered = λ k c at. slot (λ n d. IsNumbered d n) (planning_of dispatched) w.numbered k c at;
      one_by_one = pairs (λ (a b : Dispatched). IsBefore a.dispatch.came_at b.dispatch.given_at) (planning_of dispatched) w.one_by_one;
      dry = λ c dry known. absurd (is_dry dry);
      twice = all_repeats TwiceRule dispatched w.twice;
      no_third = no_third dispatched w.seconds;
      stops = w.stops;
      abort_last = λ a c known also is_abort same other. absurd (none_aborts a known is_abort);
      aborts = λ n id end ended created. inl (w.completes n id end ended created);
      completed_stays = λ n end a known is_abort completed. none_aborts a known (ap (λ (j : JobId). j.op) is_abort);
      moves_last = λ c n task known of_task at moves deletes. each MoveRule dispatched w.moves_last c known n task of_task at moves deletes;
    }
