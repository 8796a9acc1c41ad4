-- Runs that break one clause of the schedule, and no other.
use Rattle.std.specs.Prelude.{◌≡◌, ◌≢◌, ◌<◌, ◌⊎◌, ℕ, true, false, List, [], ◌∷◌, Some, None, slice_get, Contains}
use Rattle.std.specs.Prelude.{AllPairs, IsPermutation, IsSome}
use Rattle.s3_model.specs.declared.answers.Listed.{Listed}
use Rattle.s3_model.specs.declared.answers.Reply.TheVariants as reply
use Rattle.s3_model.specs.declared.requests.Ask.{Ask}
use Rattle.s3_model.specs.declared.answers.Class.{Class}
use Rattle.s3_model.specs.declared.requests.Op.TheVariants as op
use Rattle.s3_model.specs.declared.settings.Limits.{Limits}
use Rattle.s3_model.specs.declared.tasks.Task.{Task}
use Rattle.s3_model.specs.Parts.{HasPieces}
use Rattle.s3_model.specs.Talks.{Talk}
use Rattle.run_promise.specs.Carried.{IsCarried}
use Rattle.run_promise.specs.Dispatches.{IsSuccessLast}
use Rattle.job_terms.specs.Dispatches.{Dispatched, last_of}
use Rattle.run_promise.specs.Planning.{Listing, PlansFor}
use Rattle.run_promise.specs.Schedule.{IsBefore, IsBeforeAny, IsDecided, IsFailed, IsSchedule, IsTaskAsk, IsUpload}
use Rattle.run_promise.specs.Schedule.{gained_before, is_small, limit_of, most_body, planning_of}
use Rattle.job_terms.specs.Jobs.{job_of}
use Rattle.job_terms.specs.Ops.{op_of}
use Rattle.run_promise.specs.Schedule.{source_bytes}
use Rattle.promise_examples.specs.Orders as orders
use Rattle.promise_examples.specs.Pages.{bucket, page_with}
use Rattle.promise_examples.specs.Plannings as plannings
use Rattle.promise_examples.specs.Reading.{Reads, signed_body}
use Rattle.promise_examples.specs.Refused as refused
use Rattle.promise_examples.specs.Runs.{Example}

-- the clauses of the schedule (`IsSchedule` of run_promise), by their names there
pub data Rule : Type 0 where
  IsComing : Rule
  InOrder : Rule
  Asks : Rule
  Plans : Rule
  Planned : Rule
  Numbered : Rule
  OneByOne : Rule
  Dry : Rule
  Twice : Rule
  NoThird : Rule
  Stops : Rule
  AbortLast : Rule
  Aborts : Rule
  CompletedStays : Rule
  MovesLast : Rule

module _ (page_of : List ℕ → Listed) (AreNeeded : List Dispatched → Type 0) where
  abbrev pub Shows : Ask → ℕ → Talk → Class → List ℕ → Type 0
  Shows = Reads page_of

  module _ (e : Example) (dispatched coming : List Dispatched) where
    -- what the task of a job makes it ask
    abbrev pub AsksAsPlanned : Dispatched → ℕ → Type 0
    AsksAsPlanned c n = (task : Task) × (piece : ℕ) × (count : ℕ) × (slice_get e.setting.tasks n ≡ Some task)
        × HasPieces e.setting.config e.setting.limits task.kind task.size piece count × (c.size ≡ task.size)
        × (c.limit ≡ limit_of task.size piece c.dispatch.job.number c.ask)
        × IsTaskAsk (gained_before Shows dispatched c.dispatch.given_at) task
        (record { number = n; bytes = source_bytes e.setting.held task.source; piece = piece; count = count })
        task.kind (is_small e.setting task) c.dispatch.job.op c.dispatch.job.number c.ask c.body

    abbrev pub HasFailed : Dispatched → Type 0
    HasFailed c = IsFailed Shows e.setting coming c

    -- the second of two dispatches of a job may be given
    abbrev pub MayRepeat : Dispatched → Dispatched → Type 0
    MayRepeat a b = IsBefore a.dispatch.came_at b.dispatch.given_at × ¬ (IsSuccessLast (last_of a.dispatch.attempts))
        × IsBeforeAny (Some b.dispatch.given_at) e.setting.cancelled_at
        × ((failed : Dispatched) → HasFailed failed → failed.dispatch.job.task ≡ a.dispatch.job.task
        → IsBeforeAny a.dispatch.came_at failed.dispatch.came_at)
        × IsSome a.dispatch.job.task × (a.dispatch.job.op ≢ op.Abort)

    abbrev pub WasCompleted : ℕ → ℕ → Type 0
    WasCompleted n end = gained_before Shows dispatched end (job_of n op.Complete 0) reply.Completed

    -- what a clause says of this run and these jobs
    abbrev pub Obeys : Rule → Type 0
    Obeys IsComing = IsPermutation dispatched coming
    Obeys InOrder = AllPairs (λ (a b : Dispatched). IsBeforeAny a.dispatch.came_at b.dispatch.came_at) coming
    Obeys Asks = (c : Dispatched) (n : ℕ) → Contains dispatched c → c.dispatch.job.task ≡ Some n → AsksAsPlanned c n
    Obeys Plans = AreNeeded (planning_of dispatched)
    Obeys Planned = (c : Dispatched) → Contains dispatched c → c.dispatch.job.task ≡ None → (c.limit ≡ most_body)
        × (c.body ≡ [])
    Obeys Numbered = (k : ℕ) (c : Dispatched) → slice_get (planning_of dispatched) k ≡ Some c
        → (c.dispatch.job ≡ record { task = None; op = op_of c.ask; number = k }) × (c.dispatch.lane ≡ 0)
    Obeys OneByOne = AllPairs (λ (a b : Dispatched). IsBefore a.dispatch.came_at b.dispatch.given_at)
        (planning_of dispatched)
    Obeys Dry = (c : Dispatched) → e.setting.dryrun ≡ true → Contains dispatched c → c.dispatch.job.task ≡ None
    Obeys Twice = AllPairs (λ (a b : Dispatched). a.dispatch.job ≡ b.dispatch.job → MayRepeat a b) dispatched
    Obeys NoThird = (a b c : Dispatched) (i j k : ℕ) → i < j → j < k → slice_get dispatched i ≡ Some a
        → slice_get dispatched j ≡ Some b → slice_get dispatched k ≡ Some c
        → a.dispatch.job ≡ b.dispatch.job → b.dispatch.job ≡ c.dispatch.job → ⊥
    Obeys Stops = (failed c : Dispatched) → HasFailed failed → IsSome failed.dispatch.job.task
        → failed.dispatch.job.op ≢ op.Abort → Contains dispatched c → c.dispatch.job.task ≡ failed.dispatch.job.task
        → IsBefore failed.dispatch.came_at c.dispatch.given_at → c.dispatch.job.op ≡ op.Abort
    Obeys AbortLast = (a c : Dispatched) → Contains dispatched a → Contains dispatched c → a.dispatch.job.op ≡ op.Abort
        → c.dispatch.job.task ≡ a.dispatch.job.task → c.dispatch.job.op ≢ op.Abort
        → IsBefore c.dispatch.came_at a.dispatch.given_at
    Obeys Aborts = (n : ℕ) (id : List ℕ) (end : ℕ)
        → ((c : Dispatched) → Contains dispatched c → IsBefore c.dispatch.came_at end)
        → IsUpload (gained_before Shows dispatched end) n id
        → WasCompleted n end ⊎ ((a : Dispatched) × Contains dispatched a × (a.dispatch.job ≡ job_of n op.Abort 0))
    Obeys CompletedStays = (n : ℕ) (end : ℕ) (a : Dispatched) → Contains dispatched a
        → a.dispatch.job ≡ job_of n op.Abort 0
        → ¬ (WasCompleted n end)
    Obeys MovesLast = (c : Dispatched) (n : ℕ) (task : Task) → Contains dispatched c → c.dispatch.job.task ≡ Some n
        → slice_get e.setting.tasks n ≡ Some task → task.moves ≡ true → c.dispatch.job.op ≡ op.Delete
        → IsDecided e.setting task n (gained_before Shows dispatched c.dispatch.given_at)

    abbrev pub Keeps : Type 0
    Keeps = IsSchedule Shows e.setting AreNeeded dispatched coming

    abbrev pub Carries : Type 0
    Carries = IsCarried Shows signed_body [] 80 e.setting e.journal e.logs e.notes dispatched coming

  -- the clauses together say what the schedule is, no more and no less
  abbrev pub RulesAreAll : Type 0
  RulesAreAll = (e : Example) (dispatched coming : List Dispatched)
      → (((rule : Rule) → Obeys e dispatched coming rule) → Keeps e dispatched coming)
      × (Keeps e dispatched coming → (rule : Rule) → Obeys e dispatched coming rule)

  -- With one reading of its jobs they are carried, every clause holds but this one, and this one does not.
  abbrev pub BreaksRule : Rule → Example → Type 0
  BreaksRule broken e = (dispatched : List Dispatched) × (coming : List Dispatched) × Carries e dispatched coming
      × ((rule : Rule) → rule ≢ broken → Obeys e dispatched coming rule) × ¬ (Obeys e dispatched coming broken)

-- ---- small uploads

module _ (page_of : List ℕ → Listed) where
  -- where no planning job is needed
  abbrev pub BreaksRuleAlone : Rule → Example → Type 0
  BreaksRuleAlone = BreaksRule page_of (λ planning. planning ≡ [])

  pub record JobsBreakAlone : Type 0 where
    pub all_rules : RulesAreAll page_of (λ planning. planning ≡ [])
    pub third_giving : BreaksRuleAlone NoThird refused.third_giving
    pub again_after_cancel : BreaksRuleAlone Twice refused.again_after_cancel
    pub dry_put : BreaksRuleAlone Dry refused.dry_put
    pub at_threshold : BreaksRuleAlone Asks refused.at_threshold
    pub no_such_task : BreaksRuleAlone Asks refused.no_such_task
    pub needless_list : BreaksRuleAlone Plans refused.needless_list

-- ---- uploads in parts, and a move

module _ (page_of : List ℕ → Listed) where
  pub record OrdersBreakAlone : Type 0 where
    pub no_abort : BreaksRuleAlone page_of Aborts orders.no_abort
    pub early_abort : BreaksRuleAlone page_of AbortLast orders.early_abort
    pub early_delete : BreaksRuleAlone page_of MovesLast orders.early_delete
    pub after_failure : BreaksRuleAlone page_of Stops orders.after_failure
    -- the same where its failure is left out of what came
    pub after_failure_unseen : BreaksRuleAlone page_of IsComing orders.after_failure
    pub abort_after_complete : BreaksRuleAlone page_of CompletedStays orders.abort_after_complete
    pub early_complete : BreaksRuleAlone page_of Asks orders.early_complete

abbrev pub EachOrderBreaksAlone : Type 0
EachOrderBreaksAlone = (page_of : List ℕ → Listed) → OrdersBreakAlone page_of

-- ---- plannings

-- a bucket is to be listed
abbrev pub IsListing : (spare : ℕ) → List Dispatched → Type 0
IsListing spare = PlansFor (Reads (page_with spare)) (λ prefix pages. ⊥) ⊥ None (Listing bucket [] false ∷ [])

module _ (limits : Limits) (spare : ℕ) where
  abbrev pub PlanningBreaks : Rule → Example → Type 0
  PlanningBreaks = BreaksRule (page_with spare) (IsListing spare)

  pub record PlanningsBreakAlone : Type 0 where
    pub all_rules : RulesAreAll (page_with spare) (IsListing spare)
    pub early_page : PlanningBreaks OneByOne (plannings.early_page limits)
    pub skipped_number : PlanningBreaks Numbered (plannings.skipped_number limits)
    pub second_lane : PlanningBreaks Numbered (plannings.second_lane limits)
    pub page_with_body : PlanningBreaks Planned (plannings.page_with_body limits)
    -- where its jobs are read as if the last page had come first
    pub last_came_first : PlanningBreaks InOrder (plannings.both_pages limits)

abbrev pub EachJobBreaksAlone : Type 0
EachJobBreaksAlone = (page_of : List ℕ → Listed) → JobsBreakAlone page_of

abbrev pub EachPlanningBreaksAlone : Type 0
EachPlanningBreaksAlone = (limits : Limits) (spare : ℕ) → PlanningsBreakAlone limits spare
