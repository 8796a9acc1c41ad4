-- What the clauses on carried jobs give to the laws over traces.
use Rattle.std.proofs.Common.{◌≡◌, ◌∙◌, ◌≤◌, ℕ, List, Some, sym, ap, Contains, slice_get}
use Rattle.s3_model.specs.declared.requests.Ask.{Ask}
use Rattle.s3_model.specs.declared.answers.Class.{Class}
use Rattle.s3_model.specs.declared.outcomes.JobId.{JobId}
use Rattle.s3_model.specs.declared.outcomes.Event.{Event}
use Rattle.s3_model.specs.declared.outcomes.Event.TheVariants as entry
use Rattle.s3_model.specs.declared.tries.Mark.{Mark}
use Rattle.s3_model.specs.Talks.{Talk, Note}
use Rattle.job_terms.specs.Dispatches.{Dispatched}
use Rattle.s3_model.specs.Validity.{IsValidLimits}
use Rattle.run_promise.specs.Schedule.{Setting, IsSchedule, planning_of}
use Rattle.run_promise.specs.Carried.{IsCarried}
use Rattle.shared_lemmas.proofs.Clashes.{some_is}
use Rattle.world_laws.specs.Premises.{AreGiven, HasCome}
use Rattle.world_laws.specs.Tasks.{AreApart, AreQuestions, IsScheduled}
use Rattle.world_laws.proofs.Given.{stands, given_is_dispatched}

came_job : (job other : JobId) (lane lane' : ℕ) (tries tries' : List Mark) → Some (entry.Came job lane tries) ≡ Some (entry.Came other lane' tries') → job ≡ other
came_job job other lane lane' tries tries' e = cc

module _ (Shows : Ask → ℕ → Talk → Class → List ℕ → Type 0) (request_text : Ask → List ℕ → ℕ → List ℕ) (host : List ℕ) (port : ℕ) (setting : Setting) (journal : List Event)
    (logs : ℕ → List Talk) (notes : ℕ → List Note) (dispatched coming : List Dispatched) (carried : IsCarried Shows request_text host port setting journal logs notes dispatched coming) where
  pub has_come : (c : Dispatched) → Contains dispatched c → HasCome journal c
  has_come c known = let come = carried.comes c known in (come.0, come.1, come.2, come.3)

  pub are_given : AreGiven journal dispatched
  are_given = record {
    given = λ c known. (stands journal logs dispatched carried.shown c known).given;
    in_order = λ c place known at. (stands journal logs dispatched carried.shown c known).in_order place at;
    each_given = λ place lane job e. given_is_dispatched journal logs dispatched carried.shown place lane job e;
    each_came = λ place lane job tries e.
        let found = carried.nothing_else place lane job tries e in
        let come = carried.comes found.0 found.1 in
        let level = some_is come.0 place (sym come.2 ∙ found.2) in
        (found.0, found.1, came_job found.0.dispatch.job job found.0.dispatch.lane lane come.1 tries (sym come.3 ∙ ap (slice_get journal) level ∙ e), found.2);
  }

  -- with the clauses on given jobs they are what the laws on tasks take
  pub is_scheduled : (Plans : List Dispatched → Type 0) → IsSchedule Shows setting Plans dispatched coming → AreQuestions (planning_of dispatched)
      → AreApart setting.tasks → 1 ≤ setting.config.threshold → IsValidLimits setting.limits → IsScheduled Shows setting journal dispatched coming
  is_scheduled Plans schedule questions apart threshold limits = record {
    schedule = record {
      is_coming = schedule.is_coming;
      in_order = schedule.in_order;
      asks = schedule.asks;
      plans = questions;
      planned = schedule.planned;
      numbered = schedule.numbered;
      one_by_one = schedule.one_by_one;
      dry = schedule.dry;
      twice = schedule.twice;
      no_third = schedule.no_third;
      stops = schedule.stops;
      abort_last = schedule.abort_last;
      aborts = schedule.aborts;
      completed_stays = schedule.completed_stays;
      moves_last = schedule.moves_last;
    };
    given = are_given;
    come = has_come;
    apart = apart;
    threshold = threshold;
    limits = limits;
  }
