-- Jobs that are written out: which clauses of the schedule hold of them where one is broken.
use Rattle.std.proofs.Common.{◌≡◌, ℕ, Bool, true, false, List, [], Option, Some, None, ap, subst, Contains}
use Rattle.std.specs.Prelude.{◌≢◌, IsPermutation}
use Rattle.s3_model.specs.declared.answers.Listed.{Listed}
use Rattle.s3_model.specs.declared.outcomes.JobId.{JobId}
use Rattle.s3_model.specs.declared.requests.Op.{Op}
use Rattle.s3_model.specs.declared.requests.Op.TheVariants as op
use Rattle.job_terms.specs.Dispatches.{Dispatched}
use Rattle.job_terms.specs.Ops.{is_op, op_of}
use Rattle.run_promise.specs.Schedule.{IsBefore, IsBeforeAny, most_body, planning_of}
use Rattle.job_terms.specs.Jobs.{job_of}
use Rattle.promise_examples.specs.Rules.{Rule, IsComing, InOrder, Asks, Plans, Planned, Numbered, OneByOne, Dry, Twice, NoThird, Stops, AbortLast, Aborts, CompletedStays, MovesLast, Obeys, Keeps, Carries, AsksAsPlanned, HasFailed, MayRepeat, Shows, BreaksRule, RulesAreAll}
use Rattle.promise_examples.specs.Refused.{IsRefusedWith}
use Rattle.promise_examples.specs.Runs.{Example}
use Rattle.promise_examples.proofs.Clauses.{every_rule}
use Rattle.promise_examples.proofs.Concrete.{Each, each, Pairs, pairs, Slots, slot, Tails}
use Rattle.promise_examples.proofs.Repeats.{Repeats, all_repeats, Seconds, no_third}
use Rattle.promise_examples.proofs.Scheduling as scheduling

module _ (page_of : List ℕ → Listed) (AreNeeded : List Dispatched → Type 0) where
  -- ---- the clauses are all

  obeys_of : (e : Example) (dispatched coming : List Dispatched) → Keeps page_of AreNeeded e dispatched coming → (rule : Rule) → Obeys page_of AreNeeded e dispatched coming rule
  obeys_of e dispatched coming keeps IsComing = keeps.is_coming
  obeys_of e dispatched coming keeps InOrder = keeps.in_order
  obeys_of e dispatched coming keeps Asks = keeps.asks
  obeys_of e dispatched coming keeps Plans = keeps.plans
  obeys_of e dispatched coming keeps Planned = keeps.planned
  obeys_of e dispatched coming keeps Numbered = keeps.numbered
  obeys_of e dispatched coming keeps OneByOne = keeps.one_by_one
  obeys_of e dispatched coming keeps Dry = keeps.dry
  obeys_of e dispatched coming keeps Twice = keeps.twice
  obeys_of e dispatched coming keeps NoThird = keeps.no_third
  obeys_of e dispatched coming keeps Stops = keeps.stops
  obeys_of e dispatched coming keeps AbortLast = keeps.abort_last
  obeys_of e dispatched coming keeps Aborts = keeps.aborts
  obeys_of e dispatched coming keeps CompletedStays = keeps.completed_stays
  obeys_of e dispatched coming keeps MovesLast = keeps.moves_last

  keeps_of : (e : Example) (dispatched coming : List Dispatched) → ((rule : Rule) → Obeys page_of AreNeeded e dispatched coming rule) → Keeps page_of AreNeeded e dispatched coming
  keeps_of e dispatched coming all = record {
    is_coming = all IsComing;
    in_order = all InOrder;
    asks = all Asks;
    plans = all Plans;
    planned = all Planned;
    numbered = all Numbered;
    one_by_one = all OneByOne;
    dry = all Dry;
    twice = all Twice;
    no_third = all NoThird;
    stops = all Stops;
    abort_last = all AbortLast;
    aborts = all Aborts;
    completed_stays = all CompletedStays;
    moves_last = all MovesLast;
  }

  -- what is refused where any planning is right is refused
  pub narrow : (e : Example) → IsRefusedWith page_of (λ planning. Unit {0}) e → IsRefusedWith page_of AreNeeded e
  narrow e refused dispatched coming keeps carried = refused dispatched coming (record {
    is_coming = keeps.is_coming;
    in_order = keeps.in_order;
    asks = keeps.asks;
    plans = tt;
    planned = keeps.planned;
    numbered = keeps.numbered;
    one_by_one = keeps.one_by_one;
    dry = keeps.dry;
    twice = keeps.twice;
    no_third = keeps.no_third;
    stops = keeps.stops;
    abort_last = keeps.abort_last;
    aborts = keeps.aborts;
    completed_stays = keeps.completed_stays;
    moves_last = keeps.moves_last;
  }) carried

  pub rules_are_all : RulesAreAll page_of AreNeeded
  rules_are_all e dispatched coming = (keeps_of e dispatched coming, obeys_of e dispatched coming)

  -- ---- by what is written out

  module _ (e : Example) (dispatched coming : List Dispatched) where
    abbrev pub Holds : Rule → Type 0
    Holds rule = Obeys page_of AreNeeded e dispatched coming rule

    abbrev pub AskRule : Dispatched → Option ℕ → Type 0
    AskRule c None = Unit {0}
    AskRule c (Some n) = AsksAsPlanned page_of AreNeeded e dispatched coming c n

    abbrev pub PlanRule : Dispatched → Option ℕ → Type 0
    PlanRule c None = (c.limit ≡ most_body) × (c.body ≡ [])
    PlanRule c (Some n) = Unit {0}

    abbrev pub IsNumbered : ℕ → Dispatched → Type 0
    IsNumbered k c = (c.dispatch.job ≡ record { task = None; op = op_of c.ask; number = k }) × (c.dispatch.lane ≡ 0)

    -- what is to be shown of each clause but the broken one
    pub record Parts (broken : Rule) : Type 0 where
      pub is_coming : IsComing ≢ broken → IsPermutation dispatched coming
      pub in_order : InOrder ≢ broken → Pairs (λ (a b : Dispatched). IsBeforeAny a.dispatch.came_at b.dispatch.came_at) coming
      pub asks : Asks ≢ broken → Each (λ (c : Dispatched). AskRule c c.dispatch.job.task) dispatched
      pub plans : Plans ≢ broken → AreNeeded (planning_of dispatched)
      pub planned : Planned ≢ broken → Each (λ (c : Dispatched). PlanRule c c.dispatch.job.task) dispatched
      pub numbered : Numbered ≢ broken → Slots IsNumbered (planning_of dispatched)
      pub one_by_one : OneByOne ≢ broken → Pairs (λ (a b : Dispatched). IsBefore a.dispatch.came_at b.dispatch.given_at) (planning_of dispatched)
      pub dry : Dry ≢ broken → e.setting.dryrun ≡ false
      pub twice : Twice ≢ broken → Repeats (MayRepeat page_of AreNeeded e dispatched coming) dispatched
      pub no_third : NoThird ≢ broken → Seconds dispatched
      pub stops : Stops ≢ broken → Holds Stops
      pub abort_last : AbortLast ≢ broken → Holds AbortLast
      pub aborts : Aborts ≢ broken → Holds Aborts
      pub completed_stays : CompletedStays ≢ broken → Holds CompletedStays
      pub moves_last : MovesLast ≢ broken → Holds MovesLast

    ask_of : (c : Dispatched) (task : Option ℕ) (n : ℕ) → AskRule c task → task ≡ Some n → AsksAsPlanned page_of AreNeeded e dispatched coming c n
    ask_of c task n rule is = subst (AskRule c) is rule

    plan_of : (c : Dispatched) (task : Option ℕ) → PlanRule c task → task ≡ None → (c.limit ≡ most_body) × (c.body ≡ [])
    plan_of c task rule is = subst (PlanRule c) is rule

    not_both : (t : Bool) → t ≡ true → t ≡ false → ⊥
    not_both t p q = cc

    holds : (broken : Rule) → Parts broken → (rule : Rule) → rule ≢ broken → Holds rule
    holds broken parts IsComing other = parts.is_coming other
    holds broken parts InOrder other = pairs (λ (a b : Dispatched). IsBeforeAny a.dispatch.came_at b.dispatch.came_at) coming (parts.in_order other)
    holds broken parts Asks other = λ c n known of_task. ask_of c c.dispatch.job.task n (each (λ (d : Dispatched). AskRule d d.dispatch.job.task) dispatched (parts.asks other) c known) of_task
    holds broken parts Plans other = parts.plans other
    holds broken parts Planned other = λ c known none. plan_of c c.dispatch.job.task (each (λ (d : Dispatched). PlanRule d d.dispatch.job.task) dispatched (parts.planned other) c known) none
    holds broken parts Numbered other = λ k c at_k. slot IsNumbered (planning_of dispatched) (parts.numbered other) k c at_k
    holds broken parts OneByOne other = pairs (λ (a b : Dispatched). IsBefore a.dispatch.came_at b.dispatch.given_at) (planning_of dispatched) (parts.one_by_one other)
    holds broken parts Dry other = λ c dry known. absurd (not_both e.setting.dryrun dry (parts.dry other))
    holds broken parts Twice other = all_repeats (MayRepeat page_of AreNeeded e dispatched coming) dispatched (parts.twice other)
    holds broken parts NoThird other = no_third dispatched (parts.no_third other)
    holds broken parts Stops other = parts.stops other
    holds broken parts AbortLast other = parts.abort_last other
    holds broken parts Aborts other = parts.aborts other
    holds broken parts CompletedStays other = parts.completed_stays other
    holds broken parts MovesLast other = parts.moves_last other

    pub breaks : (broken : Rule) → Carries page_of AreNeeded e dispatched coming → Parts broken → ¬ (Holds broken) → BreaksRule page_of AreNeeded broken e
    breaks broken carried parts broke = (dispatched, coming, carried, holds broken parts, broke)

    -- a run that is refused breaks the clause that is left
    pub alone : (broken : Rule) → IsRefusedWith page_of AreNeeded e → Carries page_of AreNeeded e dispatched coming → Parts broken → BreaksRule page_of AreNeeded broken e
    alone broken refused carried parts =
        breaks broken carried parts (λ obeys. refused dispatched coming (keeps_of e dispatched coming (every_rule Holds broken (holds broken parts) obeys)) carried)

    -- ---- jobs of which none is of some op

    abbrev pub HasNone : Op → Type 0
    HasNone of_op = Each (λ (c : Dispatched). is_op c.dispatch.job.op of_op ≡ false) dispatched

    none_is : (of_op : Op) → HasNone of_op → (c : Dispatched) → Contains dispatched c → c.dispatch.job.op ≡ of_op → ⊥
    none_is of_op none c known is = scheduling.other_op c.dispatch.job.op of_op (each (λ (d : Dispatched). is_op d.dispatch.job.op of_op ≡ false) dispatched none c known) is

    none_of_job : (n : ℕ) (of_op : Op) → HasNone of_op → (c : Dispatched) → Contains dispatched c → c.dispatch.job ≡ job_of n of_op 0 → ⊥
    none_of_job n of_op none c known is = none_is of_op none c known (ap (λ (job : JobId). job.op) is)

    pub no_abort_last : HasNone op.Abort → Holds AbortLast
    no_abort_last none a c known also is_abort same other = absurd (none_is op.Abort none a known is_abort)

    pub no_abort_of_one : HasNone op.Abort → Holds CompletedStays
    no_abort_of_one none n end a known is completed = none_of_job n op.Abort none a known is

    pub none_completed : HasNone op.Complete → Holds CompletedStays
    none_completed none n end a known is completed = none_of_job n op.Complete none completed.0 completed.1 completed.2

    pub none_created : HasNone op.Create → Holds Aborts
    none_created none n id end ended created = absurd (none_of_job n op.Create none created.0 created.1 created.2)

    pub none_deletes : HasNone op.Delete → Holds MovesLast
    none_deletes none c n task known of_task at_n moves deletes = absurd (none_is op.Delete none c known deletes)

    -- ---- jobs of which none failed

    abbrev pub CutOrWell : Type 0
    CutOrWell = Tails (scheduling.FailureRule (Shows page_of AreNeeded) e.setting (λ c. ⊥)) coming

    pub none_failed : CutOrWell → (failed : Dispatched) → HasFailed page_of AreNeeded e dispatched coming failed → ⊥
    none_failed settled failed is_failed = scheduling.failures (Shows page_of AreNeeded) e.setting (λ c. ⊥) coming settled failed is_failed

    pub none_stops : CutOrWell → Holds Stops
    none_stops settled failed c is_failed of_task no_abort known same late = absurd (none_failed settled failed is_failed)
